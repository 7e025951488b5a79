use Rattle.std.proofs.Common.{◌≡◌, ◌∙◌, List, length, map, sym, ap, subst, refl, string_bytes}
use Rattle.module_graph.specs.Graph.{Shape}
use Rattle.outside.specs.Moments.{Holdings}
use Rattle.runtime_histories.specs.declared.entries.Entry.{Entry}
use Rattle.runtime_histories.specs.declared.entries.Event.TheVariants.{Closing}
use Rattle.runtime_histories.specs.Deeds.{Loaded, IsLive}
use Rattle.runtime_histories.specs.Entries.{deeds}
use Rattle.module_counts.specs.Counting.{Booked}
use Rattle.conversion_book.specs.Calls.{Closes}
use Rattle.conversion_book.specs.Descriptors.{held_as, kept_as}
use Rattle.conversion_book.specs.Inside.{IsBook}
use Rattle.conversion_book.specs.Preparing.{still_kept}
use Rattle.conversion_book.specs.Runtime.{Held, Runtime, log_of, without}
use Rattle.conversion_book.proofs.Booking.{book_closes}
use Rattle.conversion_book.proofs.Holding.{without_is}
use Rattle.conversion_book.proofs.book.Book.close_desc.Goals as goal

pub invariant_of-self : goal.invariant_of-self
invariant_of-self g c =
    let i = c.self.inside in
    let h : Holdings = g.L.Library.holdings i.library in
    let r : Runtime = record { books = i.counts; aliases = i.aliases; directory = string_bytes i.dir; library = h; held = map held_as i.held.items } in
    let keeps : List Loaded = map kept_as i.kept.items in
    let b : Booked = c.dismiss.new.self in
    let n = c.args.number in
    let e : Entry = record { caller = c.args.caller; event = Closing n } in
    let later : List Loaded = map kept_as c.keep_resident.new.kept.items in
    let lives : IsLive (log_of r) c.args.caller n = subst (λ (z : Runtime). IsLive (log_of z) c.args.caller n) (sym c.self.view_is) c.requires in
    let graph : b.graph ≡ i.graph = c.dismiss.ensures.same.0 ∙ c.self.invariant.0.graph_is in
    let later_is : later ≡ still_kept (length i.graph.kinds) (deeds b.journal) keeps =
    c.keep_resident.ensures.items ∙ ap (λ (z : Shape). still_kept (length z.kinds) (deeds b.journal) keeps) graph in
    let held : map held_as c.drop_held.new.held.items ≡ without n r.held = ap (map held_as) c.drop_held.ensures.items ∙ without_is n i.held.items in (
      subst (λ (z : List Held). IsBook i.graph later (record { books = b; aliases = i.aliases; directory = string_bytes i.dir; library = h; held = z })) (sym held)
          (book_closes i.graph keeps r c.self.invariant.0 b h e c.dismiss.ensures.same.0 c.dismiss.ensures.same.1 refl c.dismiss.ensures.journal lives n lives refl later later_is),
      c.self.invariant.1,
    )

pub returns : goal.returns
returns g c =
    let i = c.self.inside in
    let h : Holdings = g.L.Library.holdings i.library in
    let b : Booked = c.dismiss.new.self in
    let held : List Held = map held_as c.drop_held.new.held.items in
    let new : Runtime = record { books = b; aliases = i.aliases; directory = string_bytes i.dir; library = h; held = held } in
    subst (λ (z : Runtime). Closes z new c.args.caller c.args.number) c.self.view_is (record {
      journal = c.dismiss.ensures.journal;
      books = c.dismiss.ensures.same;
      held = ap (map held_as) c.drop_held.ensures.items ∙ without_is c.args.number i.held.items;
      same = (refl, refl, refl);
    })
