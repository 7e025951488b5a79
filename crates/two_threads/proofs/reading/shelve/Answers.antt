use Rattle.std.proofs.Common.{rules, ◌≡◌, sym, subst, [], ◌∷◌}
use Rattle.two_threads.specs.Shelves.{IsOnePin, IsPinOf, pages_of}
use Rattle.two_threads.proofs.reading.shelve.Goals as goal

pub returns : goal.returns
returns c = let made = c.in_ok-hall.ensures in
    let numbers : c.in_ok-pages.pages.items ≡ pages_of c.args.table.now = search rules in
    let pin : IsPinOf c.args.table.now c.in_ok-pin.pin = search rules in
    let alone : c.in_ok-pins.pins.items ≡ c.in_ok-pin.pin ∷ [] = search rules in record {
      all = record {
        place = made.hall;
        numbers = numbers;
        pin = subst (λ t. IsOnePin t c.in_ok-pins.pins.items) (sym made.hall.same)
            (subst (IsOnePin c.args.table.now) (sym alone) pin);
      };
      lead = made.lead.0;
      next = made.lead.1;
    }
