use Rattle.std.proofs.Common.{ap, length, map, sym, ◌∙◌, arith}
use Rattle.std.specs.List.{list_any}
use Rattle.std.specs.Str.{bytes_eq}
use Rattle.modules_conf.proofs.BindingLemmas.{with_row-twice, with_row-next}
use Rattle.modules_conf.proofs.binding_reader.take_row.Goals as goal

pub returns-then-contains-clause-err : goal.returns-then-contains-clause-err
returns-then-contains-clause-err c = λ other.
    with_row-twice c.args.bindings.now c.args.line (map (λ word. word.now) c.args.words.now) c.in-Ok.binding (omega (arith, ap length c.as_slice.ensures)) (sym c.in-Ok.ensures)
    (ap (list_any (bytes_eq c.in-Ok.binding.name)) (sym c.requires.names) ∙ sym c.contains.ensures ∙ c.if-contains.true)

pub returns-in-Ok-push-clause-ok : goal.returns-in-Ok-push-clause-ok
returns-in-Ok-push-clause-ok c =
    with_row-next c.args.bindings.now c.push.new.self c.args.line (map (λ word. word.now) c.args.words.now) c.in-Ok.binding (omega (arith, ap length c.as_slice.ensures)) (sym c.in-Ok.ensures)
    (ap (list_any (bytes_eq c.in-Ok.binding.name)) (sym c.requires.names) ∙ sym c.contains.ensures ∙ c.if-contains.false) c.in-Ok-push.ensures.ok
