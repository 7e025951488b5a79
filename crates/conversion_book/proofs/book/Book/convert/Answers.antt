use Rattle.std.proofs.Common.{◌≡◌, ◌∙◌, ◌++◌, List, length, map, take, drop, ap, subst, string_bytes, arith}
use Rattle.chain_steps.specs.Runs.{IsCall}
use Rattle.conversion_book.specs.Calls.{Moves}
use Rattle.conversion_book.specs.declared.descriptor.Descriptor.{Descriptor}
use Rattle.conversion_book.specs.Descriptors.{held_as, kept_as}
use Rattle.conversion_book.specs.Runtime.{Runtime}
use Rattle.conversion_book.proofs.Booking.{book_moves}
use Rattle.conversion_book.proofs.Holding.{whole_slice}
use Rattle.conversion_book.proofs.Wholes.{known_so}
use Rattle.conversion_book.proofs.book.Book.convert.Goals as goal

pub invariant_of-self : goal.invariant_of-self
invariant_of-self g c =
    let i = c.self.inside in
    let r : Runtime = record { books = i.counts; aliases = i.aliases; directory = string_bytes i.dir; library = g.L.Library.holdings i.library; held = map held_as i.held.items } in
    let new : List Descriptor = c.convert_held.new.held in
    let moves : Moves r.held (map held_as new) c.args.number (λ ts m n. IsCall ts m n c.args.input.now c.args.output.now c.convert_held.new.output c.convert_held.result) =
    subst (λ (z : List Descriptor). Moves (map held_as z) (map held_as new) c.args.number (λ ts m n. IsCall ts m n c.args.input.now c.args.output.now c.convert_held.new.output c.convert_held.result)) c.as_mut_slice.ensures.value c.convert_held.ensures in
    let whole : take i.held.len (new ++ drop (length new) i.held.items) ≡ new = whole_slice new (drop (length new) i.held.items) i.held.len (let a = c.as_mut_slice.ensures.len in let b = c.convert_held.auto.held in omega (arith, a, b)) in (
      book_moves i.graph (map kept_as i.kept.items) r c.self.invariant.0 c.args.number moves.machine (map held_as (take i.held.len (new ++ drop (length new) i.held.items))) (ap (map held_as) whole ∙ moves.new_is)
          (λ h e. (known_so _ h (λ z. IsCall z.tables z.machine moves.machine c.args.input.now c.args.output.now c.convert_held.new.output c.convert_held.result) e moves.does_so).recipe),
      c.self.invariant.1,
    )
