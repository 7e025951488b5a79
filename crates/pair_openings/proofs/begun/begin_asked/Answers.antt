use Rattle.std.proofs.Common.{◌≡◌, ◌∙◌, ◌+◌, ◌≤◌, sym, subst, refl, length, List, [], rules}
use Rattle.runtime_histories.specs.declared.refusals.Refusal.{Refusal}
use Rattle.runtime_histories.specs.declared.entries.Reply.TheVariants.{Refused}
use Rattle.runtime_histories.specs.Entries.{deeds}
use Rattle.pair_openings.specs.Answers.{Answers, Refuses}
use Rattle.pair_openings.specs.Entered.{Enters, IsNextIn, Stays, entry_of}
use Rattle.pair_openings.specs.Loading.{Ground}
use Rattle.pair_openings.proofs.RoomMade.{ground_same, refusal_next, refusal_left}
use Rattle.names_alias.specs.Aliases.{AliasTable}
use Rattle.runtime_histories.specs.Deeds.{live}
use Rattle.module_graph.specs.Graph.{Shape}
use Rattle.runtime_histories.specs.declared.entries.Entry.{Entry}
use Rattle.pair_openings.proofs.begun.begin_asked.Goals as goal

-- Some aliases: what is legal of names as asked is so under any.
no_aliases : AliasTable
no_aliases = record { fixed = []; pairs = [] }

pub returns-in-Ok-decide-clause-ok : goal.returns-in-Ok-decide-clause-ok
returns-in-Ok-decide-clause-ok g c =
    let a = c.args.counts.now in
    let m = c.reserve.new.self in
    let stays : Stays a m = record { journal = c.reserve.ensures.journal; graph = c.reserve.ensures.same.0; pages = c.reserve.ensures.same.1; limit = c.reserve.ensures.same.2 } in
    let graph : c.args.graph.now ≡ m.graph = c.requires.graph ∙ sym c.reserve.ensures.same.0 in
    let old = g.L.Library.holdings c.args.library.now in
    let new = g.L.Library.holdings c.decide.new.library in
    let d = c.args.dir.now in
    let ok = subst (λ (z : Shape). Answers (record { directory = d; graph = z; pages = m.pages; log = deeds m.journal }) old new c.args.from c.args.to c.in-Ok-decide.opening) graph c.in-Ok-decide.ensures.ok in
    record {
      stays = stays;
      limit = search rules;
      room = subst (λ (z : List Entry). length (live (deeds z)) + 2 ≤ m.spare) (sym c.reserve.ensures.journal) (search rules);
      names = (refl, refl);
      answers = subst (λ (z : Ground). Answers z old new c.args.from c.args.to c.in-Ok-decide.opening) (ground_same a m m stays d) ok;
    }

pub enter_refusal-requires-clause-legal : goal.enter_refusal-requires-clause-legal
enter_refusal-requires-clause-legal g c =
    let m = c.reserve.new.self in
    let graph : c.args.graph.now ≡ m.graph = c.requires.graph ∙ sym c.reserve.ensures.same.0 in
    let old = g.L.Library.holdings c.args.library.now in
    let new = g.L.Library.holdings c.decide.new.library in
    let d = c.args.dir.now in
    let why = c.in-Err-decide.why in
    let err = subst (λ (z : Shape). Refuses (record { directory = d; graph = z; pages = m.pages; log = deeds m.journal }) old new c.args.from c.args.to why) graph c.in-Err-decide.ensures.err in
    subst (λ (z : Refusal). IsNextIn m c.args.from c.args.to (Refused z)) (sym c.copied.ensures)
    (refusal_next no_aliases d m old new c.args.from c.args.to why (sym c.is_memory.ensures ∙ c.if-is_memory.false) err)

pub returns-else-is_memory-clause-err : goal.returns-else-is_memory-clause-err
returns-else-is_memory-clause-err g c =
    let a = c.args.counts.now in
    let m = c.reserve.new.self in
    let b = c.enter_refusal.new.counts in
    let stays : Stays a m = record { journal = c.reserve.ensures.journal; graph = c.reserve.ensures.same.0; pages = c.reserve.ensures.same.1; limit = c.reserve.ensures.same.2 } in
    let graph : c.args.graph.now ≡ m.graph = c.requires.graph ∙ sym c.reserve.ensures.same.0 in
    let old = g.L.Library.holdings c.args.library.now in
    let new = g.L.Library.holdings c.decide.new.library in
    let d = c.args.dir.now in
    let why = c.in-Err-decide.why in
    let err = subst (λ (z : Shape). Refuses (record { directory = d; graph = z; pages = m.pages; log = deeds m.journal }) old new c.args.from c.args.to why) graph c.in-Err-decide.ensures.err in
    let entered = subst (λ (z : Refusal). Enters m b (entry_of c.args.caller c.args.from c.args.to (Refused z))) c.copied.ensures c.enter_refusal.ensures in
    refusal_left no_aliases a m b stays d old new c.args.caller c.args.from c.args.to why (sym c.is_memory.ensures ∙ c.if-is_memory.false) err entered
