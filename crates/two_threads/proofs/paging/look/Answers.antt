use Rattle.std.proofs.Common.{◌∙◌, ap, sym, subst, arith, length, ◌<◌}
use Rattle.code_pairs.specs.Tables.{table_at}
use Rattle.code_table.specs.Looks.{look_of}
use Rattle.history_core.specs.Tokens.{words_of, number, front}
use Rattle.page_store.specs.Pins.{ArePins, tables_of}
use Rattle.two_threads.specs.Shelves.{held, table_of}
use Rattle.two_threads.proofs.ShelfLaws.{pin_is, table_is, one_pin}
use Rattle.two_threads.proofs.paging.look.Goals as goal

pub look_first-requires-clause-ready : goal.look_first-requires-clause-ready
look_first-requires-clause-ready c =
    let t = table_of c.args.hall.now in
    let n = number c.args.pass.now in
    let log = front c.args.pass.now in
    let p = one_pin (table_of c.args.hall.now) c.args.pins.now c.requires.pins in record {
      own = c.requires.own;
      held = subst (λ l. ArePins (held t log n) (words_of c.args.hall.now) l) (sym p.alone) (
        pin_is t log n (words_of c.args.hall.now) p.pin.layout p.pin.pages.items c.requires.taken
            c.requires.hall.room p.is.pages p.is.parts,
        tt,
      );
    }

pub look_first-requires-clause-some : goal.look_first-requires-clause-some
look_first-requires-clause-some c =
    let p = one_pin (table_of c.args.hall.now) c.args.pins.now c.requires.pins in
    subst (λ l. 0 < length l) (sym p.alone) (omega arith)

pub returns-clause-value : goal.returns-clause-value
returns-clause-value c =
    let t = table_of c.args.hall.now in
    let n = number c.args.pass.now in
    let log = front c.args.pass.now in
    let p = one_pin (table_of c.args.hall.now) c.args.pins.now c.requires.pins in
    c.look_first.ensures.value ∙ ap (λ x. look_of x c.args.bytes.now)
    (ap (λ l. table_at (tables_of (held t log n) l) 0) p.alone
    ∙ table_is t log n p.pin.pages.items c.requires.taken p.is.pages)
