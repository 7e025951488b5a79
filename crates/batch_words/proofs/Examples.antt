-- Rows of the command line, by computation.
use Rattle.std.proofs.Common.{◌≡◌, refl, Some, None, List, [], ◌∷◌, codes}
use Rattle.clap.specs.Words.{Text}
use Rattle.clap.proofs.OnLiterals.{clap_on_literals}
use Rattle.batch_words.specs.Command.{the_app}
use Rattle.batch_words.specs.Asked.{asked, long_form, long_asked, short_asked, Request, Texts, Single, Generated}

first_row : List Text
first_row = codes "-f" ∷ codes "UTF-8" ∷ codes "-t" ∷ codes "UTF-16LE" ∷ codes "a.txt" ∷ codes "b.txt" ∷ []

short_row : asked first_row ≡ Some (record { source = Single (codes "UTF-8") (codes "UTF-16LE") (codes "a.txt") (codes "b.txt"); pages = 0; journal = None; workers = 0 })
unfolding first_row asked short_asked
short_row = refl

long_row : asked (codes "--jobs=j" ∷ codes "--modules" ∷ codes "m" ∷ codes "--charmaps" ∷ codes "c" ∷ codes "--bindings" ∷ codes "b" ∷ codes "--workers" ∷ codes "007" ∷ [])
    ≡ Some (record { source = Texts (codes "m") (codes "b") (codes "c") (codes "j"); pages = 16384; journal = None; workers = 7 })
unfolding the_app asked short_asked long_form long_asked clap_on_literals
long_row = refl

help_row : asked (codes "--help" ∷ []) ≡ None
unfolding the_app asked short_asked long_form long_asked clap_on_literals
help_row = refl

no_words : asked [] ≡ None
unfolding the_app asked short_asked long_form long_asked clap_on_literals
no_words = refl

twice : asked (codes "--generate" ∷ codes "1" ∷ codes "--generate" ∷ codes "1" ∷ []) ≡ None
unfolding the_app asked short_asked long_form long_asked clap_on_literals
twice = refl

generates : asked (codes "--generate" ∷ codes "1000" ∷ []) ≡ Some (record { source = Generated 1000; pages = 16384; journal = None; workers = 4 })
unfolding the_app asked short_asked long_form long_asked clap_on_literals
generates = refl

too_many_workers : asked (codes "--generate" ∷ codes "1" ∷ codes "--workers" ∷ codes "65" ∷ []) ≡ None
unfolding the_app asked short_asked long_form long_asked clap_on_literals
too_many_workers = refl

-- a value that begins with '-' is no value
dash_value : asked (codes "--generate" ∷ codes "1" ∷ codes "--workers" ∷ codes "-1" ∷ []) ≡ None
unfolding the_app asked short_asked long_form long_asked clap_on_literals
dash_value = refl

-- a lone '--' changes nothing
lone_dashes : asked (codes "--generate" ∷ codes "1" ∷ codes "--" ∷ []) ≡ Some (record { source = Generated 1; pages = 16384; journal = None; workers = 4 })
unfolding the_app asked short_asked long_form long_asked clap_on_literals
lone_dashes = refl

prefix : asked (codes "--gen" ∷ codes "1" ∷ []) ≡ None
unfolding the_app asked short_asked long_form long_asked clap_on_literals
prefix = refl
