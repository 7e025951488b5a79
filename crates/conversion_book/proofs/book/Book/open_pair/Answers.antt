use Rattle.std.proofs.Common.{◌≡◌, ◌∙◌, ℕ, List, Option, map, sym, refl, subst, string_bytes, rules}
use Rattle.std.specs.Prelude.{IsSome, IfSome}
use Rattle.chain_steps.specs.Chains.{initial}
use Rattle.outside.specs.Moments.{Holdings}
use Rattle.runtime_histories.specs.declared.refusals.Asked.{Asked}
use Rattle.runtime_histories.specs.declared.refusals.Refusal.TheVariants.{Memory}
use Rattle.runtime_histories.specs.Deeds.{Loaded}
use Rattle.module_counts.specs.Counting.{Booked}
use Rattle.pair_openings.specs.Asking.{asked_of}
use Rattle.pair_openings.specs.Entered.{HasBegun, HasRefused}
use Rattle.conversion_book.specs.declared.descriptor.Descriptor.{Descriptor}
use Rattle.conversion_book.specs.Descriptors.{held_as, kept_as}
use Rattle.conversion_book.specs.Openings.{Opens, Refuses}
use Rattle.conversion_book.specs.Runtime.{Held, Runtime}
use Rattle.conversion_book.proofs.Opening.{begun_next, begun_led, entered_book, entered_found, entered_opens, lost_refuses, refused_book}
use Rattle.conversion_book.proofs.book.Book.open_pair.Goals as goal

pub invariant_of-self : goal.invariant_of-self
invariant_of-self g c =
    let i = c.self.inside in
    let h : Holdings = g.L.Library.holdings i.library in
    let r : Runtime = record { books = i.counts; aliases = i.aliases; directory = string_bytes i.dir; library = h; held = map held_as i.held.items } in
    let keeps : List Loaded = map kept_as i.kept.items in
    let m : Booked = c.begin_again.new.counts in
    let new : Holdings = g.L.Library.holdings c.begin_again.new.library in
    let from : Asked = asked_of i.aliases c.args.from.now in
    let to : Asked = asked_of i.aliases c.args.to.now in (
      refused_book i.graph keeps r c.self.invariant.0 m new c.args.caller from to c.in-Err.why
          (subst (λ (d : List ℕ). HasRefused d i.counts m h new c.args.caller from to c.in-Err.why) c.as_str.ensures.value c.in-Err.ensures.err),
      c.in-Err.ensures.told ∙ c.self.invariant.1,
    )

pub enter-requires-clause-legal : goal.enter-requires-clause-legal
enter-requires-clause-legal g c =
    let i = c.self.inside in
    let h : Holdings = g.L.Library.holdings i.library in
    let r : Runtime = record { books = i.counts; aliases = i.aliases; directory = string_bytes i.dir; library = h; held = map held_as i.held.items } in
    let m : Booked = c.begin_again.new.counts in
    let new : Holdings = g.L.Library.holdings c.begin_again.new.library in
    let from : Asked = asked_of i.aliases c.args.from.now in
    let to : Asked = asked_of i.aliases c.args.to.now in
    let begun : HasBegun r.directory i.counts m h new from to c.in-Ok.begun = subst (λ (d : List ℕ). HasBegun d i.counts m h new from to c.in-Ok.begun) c.as_str.ensures.value c.in-Ok.ensures.ok in
    begun_next i.graph (map kept_as i.kept.items) r c.self.invariant.0 m new from to c.in-Ok.begun begun

pub enter-requires-clause-led : goal.enter-requires-clause-led
enter-requires-clause-led g c =
    let i = c.self.inside in
    let h : Holdings = g.L.Library.holdings i.library in
    let r : Runtime = record { books = i.counts; aliases = i.aliases; directory = string_bytes i.dir; library = h; held = map held_as i.held.items } in
    let m : Booked = c.begin_again.new.counts in
    let new : Holdings = g.L.Library.holdings c.begin_again.new.library in
    let from : Asked = asked_of i.aliases c.args.from.now in
    let to : Asked = asked_of i.aliases c.args.to.now in
    let begun : HasBegun r.directory i.counts m h new from to c.in-Ok.begun = subst (λ (d : List ℕ). HasBegun d i.counts m h new from to c.in-Ok.begun) c.as_str.ensures.value c.in-Ok.ensures.ok in
    begun_led i.graph (map kept_as i.kept.items) r c.self.invariant.0 m new from to c.in-Ok.begun begun

pub returns-in_default-clause-err : goal.returns-in_default-clause-err
returns-in_default-clause-err g c =
    let i = c.self.inside in
    let h : Holdings = g.L.Library.holdings i.library in
    let r : Runtime = record { books = i.counts; aliases = i.aliases; directory = string_bytes i.dir; library = h; held = map held_as i.held.items } in
    let m : Booked = c.begin_again.new.counts in
    let new : Holdings = g.L.Library.holdings c.begin_again.new.library in
    let from : Asked = asked_of i.aliases c.args.from.now in
    let to : Asked = asked_of i.aliases c.args.to.now in
    let begun : HasBegun r.directory i.counts m h new from to c.in-Ok.begun = subst (λ (d : List ℕ). HasBegun d i.counts m h new from to c.in-Ok.begun) c.as_str.ensures.value c.in-Ok.ensures.ok in
    let counts : c.enter.new.counts ≡ m = search rules in
    let held : c.enter.new.held.items ≡ i.held.items = search rules in
    let ds : List Descriptor = c.enter.new.held.items in
    let lost = lost_refuses i.graph (map kept_as i.kept.items) r c.self.invariant.0 m new from to c.in-Ok.begun begun c.args.caller in
    let there = subst (λ (z : List Descriptor). Refuses r (record { books = m; aliases = i.aliases; directory = string_bytes i.dir; library = new; held = map held_as z }) c.args.caller from to Memory) (sym held) lost in
    let then_so = subst (λ (b : Booked). Refuses r (record { books = b; aliases = i.aliases; directory = string_bytes i.dir; library = new; held = map held_as ds }) c.args.caller from to Memory) (sym counts) there in
    subst (λ (z : Runtime). Refuses z (record { books = c.enter.new.counts; aliases = i.aliases; directory = string_bytes i.dir; library = new; held = map held_as ds }) c.args.caller (asked_of z.aliases c.args.from.now) (asked_of z.aliases c.args.to.now) Memory) c.self.view_is then_so

pub invariant_of-self-2 : goal.invariant_of-self-2
invariant_of-self-2 g c =
    let i = c.self.inside in
    let h : Holdings = g.L.Library.holdings i.library in
    let r : Runtime = record { books = i.counts; aliases = i.aliases; directory = string_bytes i.dir; library = h; held = map held_as i.held.items } in
    let m : Booked = c.begin_again.new.counts in
    let new : Holdings = g.L.Library.holdings c.begin_again.new.library in
    let from : Asked = asked_of i.aliases c.args.from.now in
    let to : Asked = asked_of i.aliases c.args.to.now in
    let begun : HasBegun r.directory i.counts m h new from to c.in-Ok.begun = subst (λ (d : List ℕ). HasBegun d i.counts m h new from to c.in-Ok.begun) c.as_str.ensures.value c.in-Ok.ensures.ok in (
      entered_book i.graph (map kept_as i.kept.items) r c.self.invariant.0 m new from to c.in-Ok.begun begun c.args.caller c.in-Ok-enter.number c.enter.new.counts
          (map kept_as c.enter.new.kept.items) (map held_as c.enter.new.held.items) c.in-Ok-enter.ensures.ok,
      c.in-Ok.ensures.told ∙ c.self.invariant.1,
    )

pub returns-clause-ok : goal.returns-clause-ok
returns-clause-ok g c =
    let i = c.self.inside in
    let h : Holdings = g.L.Library.holdings i.library in
    let r : Runtime = record { books = i.counts; aliases = i.aliases; directory = string_bytes i.dir; library = h; held = map held_as i.held.items } in
    let m : Booked = c.begin_again.new.counts in
    let new : Holdings = g.L.Library.holdings c.begin_again.new.library in
    let from : Asked = asked_of i.aliases c.args.from.now in
    let to : Asked = asked_of i.aliases c.args.to.now in
    let begun : HasBegun r.directory i.counts m h new from to c.in-Ok.begun = subst (λ (d : List ℕ). HasBegun d i.counts m h new from to c.in-Ok.begun) c.as_str.ensures.value c.in-Ok.ensures.ok in
    subst (λ (z : Runtime). Opens z (record { books = c.enter.new.counts; aliases = i.aliases; directory = string_bytes i.dir; library = new; held = map held_as c.enter.new.held.items }) c.args.caller (asked_of z.aliases c.args.from.now) (asked_of z.aliases c.args.to.now) c.in-Ok-enter.number) c.self.view_is
    (entered_opens i.graph (map kept_as i.kept.items) r c.self.invariant.0 m new from to c.in-Ok.begun begun c.args.caller c.in-Ok-enter.number c.enter.new.counts
    (map kept_as c.enter.new.kept.items) (map held_as c.enter.new.held.items) c.in-Ok-enter.ensures.ok)

pub returns-clause-held : goal.returns-clause-held
returns-clause-held g c =
    let i = c.self.inside in
    let h : Holdings = g.L.Library.holdings i.library in
    let r : Runtime = record { books = i.counts; aliases = i.aliases; directory = string_bytes i.dir; library = h; held = map held_as i.held.items } in
    let m : Booked = c.begin_again.new.counts in
    let new : Holdings = g.L.Library.holdings c.begin_again.new.library in
    let from : Asked = asked_of i.aliases c.args.from.now in
    let to : Asked = asked_of i.aliases c.args.to.now in
    let begun : HasBegun r.directory i.counts m h new from to c.in-Ok.begun = subst (λ (d : List ℕ). HasBegun d i.counts m h new from to c.in-Ok.begun) c.as_str.ensures.value c.in-Ok.ensures.ok in
    subst (λ (o : Option Held). IsSome o) (sym (entered_found i.graph (map kept_as i.kept.items) r c.self.invariant.0 m new from to c.in-Ok.begun begun c.args.caller c.in-Ok-enter.number c.enter.new.counts
    (map kept_as c.enter.new.kept.items) (map held_as c.enter.new.held.items) c.in-Ok-enter.ensures.ok)) refl

pub returns-clause-fresh : goal.returns-clause-fresh
returns-clause-fresh g c =
    let i = c.self.inside in
    let h : Holdings = g.L.Library.holdings i.library in
    let r : Runtime = record { books = i.counts; aliases = i.aliases; directory = string_bytes i.dir; library = h; held = map held_as i.held.items } in
    let m : Booked = c.begin_again.new.counts in
    let new : Holdings = g.L.Library.holdings c.begin_again.new.library in
    let from : Asked = asked_of i.aliases c.args.from.now in
    let to : Asked = asked_of i.aliases c.args.to.now in
    let begun : HasBegun r.directory i.counts m h new from to c.in-Ok.begun = subst (λ (d : List ℕ). HasBegun d i.counts m h new from to c.in-Ok.begun) c.as_str.ensures.value c.in-Ok.ensures.ok in
    subst (λ (o : Option Held). IfSome o (λ h. h.machine.states ≡ initial)) (sym (entered_found i.graph (map kept_as i.kept.items) r c.self.invariant.0 m new from to c.in-Ok.begun begun c.args.caller c.in-Ok-enter.number c.enter.new.counts
    (map kept_as c.enter.new.kept.items) (map held_as c.enter.new.held.items) c.in-Ok-enter.ensures.ok)) refl
