-- The command is one whose refusals clap states.
use Rattle.std.proofs.Common.{◌≡◌, ◌≢◌, ◌⊎◌, inl, inr, refl, true, false, List, [], ◌∷◌, Err}
use Rattle.clap.specs.Words.{is_simple, is_simple_and_free, IsAmong, Kinds, Text, fault_of}
use Rattle.clap.specs.declared.error.kind.ErrorKind.{ErrorKind}
use Rattle.clap.proofs.OnLiterals.{clap_on_literals}
use Rattle.clap.specs.declared.error.kind.ErrorKind.TheVariants as kind
use Rattle.batch_words.specs.declared.requests.Refusal.{Refusal}
use Rattle.batch_words.specs.declared.requests.Refusal.TheVariants as refusal
use Rattle.batch_words.specs.Command.{the_app, is_none_of, Matched}

pub is_free : is_simple_and_free the_app ≡ true
unfolding the_app clap_on_literals
is_free = refl

pub is_plain : is_simple the_app ≡ true
unfolding the_app clap_on_literals
is_plain = refl

pub some_left : (k : ErrorKind) (xs : Kinds) → IsAmong k xs → is_none_of xs ≡ false
some_left k [] h = absurd h
some_left k (x ∷ xs) h = refl

pub not_matched : (words : List Text) (k : ErrorKind) (r : Refusal) → (r ≡ refusal.Usage → k ≢ kind.OutOfMemory)
    → ((k ≡ kind.OutOfMemory) ⊎ IsAmong k (fault_of the_app words)) → Matched words (Err r)
not_matched words k refusal.Usage h (inl e) = absurd (h refl e)
not_matched words k refusal.Usage h (inr e) = some_left k _ e
not_matched words k refusal.Memory h e = tt
