use Rattle.std.proofs.Common.{sym, subst, arith, length, ◌<◌}
use Rattle.history_core.specs.Tokens.{words_of, number, front}
use Rattle.page_store.specs.Pins.{ArePins}
use Rattle.two_threads.specs.Shelves.{held, table_of}
use Rattle.two_threads.proofs.ShelfLaws.{pin_is, one_pin}
use Rattle.two_threads.proofs.measure.look_ups_paged.Goals as goal

pub look_ups_first-requires-clause-ready : goal.look_ups_first-requires-clause-ready
look_ups_first-requires-clause-ready c =
    let t = table_of c.args.hall.now in
    let n = number c.args.pass.now in
    let log = front c.args.pass.now in
    let p = one_pin (table_of c.args.hall.now) c.args.pins.now c.requires.pins in record {
      own = c.requires.own;
      held = subst (λ l. ArePins (held t log n) (words_of c.args.hall.now) l) (sym p.alone) (
        pin_is t log n (words_of c.args.hall.now) p.pin.layout p.pin.pages.items c.requires.taken
            c.requires.hall.room p.is.pages p.is.parts,
        tt,
      );
    }

pub look_ups_first-requires-clause-some : goal.look_ups_first-requires-clause-some
look_ups_first-requires-clause-some c =
    let p = one_pin (table_of c.args.hall.now) c.args.pins.now c.requires.pins in
    subst (λ l. 0 < length l) (sym p.alone) (omega arith)
