use Rattle.std.proofs.Common.{◌≡◌, ◌∙◌, ◌++◌, List, length, map, take, drop, ap, subst, string_bytes, arith}
use Rattle.conversion_book.specs.Calls.{Moves}
use Rattle.conversion_book.specs.declared.descriptor.Descriptor.{Descriptor}
use Rattle.conversion_book.specs.Descriptors.{held_as, kept_as}
use Rattle.conversion_book.specs.Runtime.{Runtime}
use Rattle.conversion_book.proofs.Booking.{book_moves}
use Rattle.conversion_book.proofs.Holding.{whole_slice}
use Rattle.conversion_book.proofs.Wholes.{known_so}
use Rattle.conversion_book.proofs.book.Book.convert_whole.Goals as goal

pub invariant_of-self : goal.invariant_of-self
invariant_of-self g c =
    let i = c.self.inside in
    let r : Runtime = record { books = i.counts; aliases = i.aliases; directory = string_bytes i.dir; library = g.L.Library.holdings i.library; held = map held_as i.held.items } in
    let new : List Descriptor = c.convert_whole_held.new.held in
    let moves : Moves r.held (map held_as new) c.args.number (λ ts m n. n.recipe ≡ m.recipe) =
    subst (λ (z : List Descriptor). Moves (map held_as z) (map held_as new) c.args.number (λ ts m n. n.recipe ≡ m.recipe)) c.as_mut_slice.ensures.value c.convert_whole_held.ensures.moves in
    let whole : take i.held.len (new ++ drop (length new) i.held.items) ≡ new = whole_slice new (drop (length new) i.held.items) i.held.len (let a = c.as_mut_slice.ensures.len in let b = c.convert_whole_held.auto.held in omega (arith, a, b)) in (
      book_moves i.graph (map kept_as i.kept.items) r c.self.invariant.0 c.args.number moves.machine (map held_as (take i.held.len (new ++ drop (length new) i.held.items))) (ap (map held_as) whole ∙ moves.new_is)
          (λ h e. known_so _ h (λ z. moves.machine.recipe ≡ z.machine.recipe) e moves.does_so),
      c.self.invariant.1,
    )
