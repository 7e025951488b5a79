use Rattle.std.proofs.Common.{◌&&◌, sym, ap, ◌∙◌}
use Rattle.code_pairs.specs.Tables.{code_of}
use Rattle.code_table.specs.Ascii.{is_single}
use Rattle.code_table.proofs.ascii.is_own.Goals as goal

pub returns-then-is_point : goal.returns-then-is_point
returns-then-is_point c = λ table is.
    let b = c.args.byte in
    c.is_byte.ensures ∙ ap (λ o. is_single o b) (c.bytes_in-code.ensures.value table is)
    ∙ ap (λ x. x && is_single (code_of table b) b)
    (sym c.if-is_point.true ∙ c.is_point.ensures table (c.code_in-look.ensures.value table is))

pub returns-else-is_point : goal.returns-else-is_point
returns-else-is_point c = λ table is.
    c.if-is_point.false ∙ ap (λ x. x && is_single (code_of table c.args.byte) c.args.byte)
    (sym c.if-is_point.false ∙ c.is_point.ensures table (c.code_in-look.ensures.value table is))
