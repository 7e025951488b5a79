use Rattle.std.proofs.Common.{◌∙◌, arith, sym, subst}
use Rattle.charmap_reader.specs.Faults.{Fails}
use Rattle.charmap_reader.proofs.Scans.{length-lines, charmap_read}
use Rattle.charmap_reader.proofs.charmap.read_charmap.Goals as goal

pub read_header-requires : goal.read_header-requires
read_header-requires c = omega (arith, length-lines c.args.text.now)

pub read_mapping-requires-clause-count : goal.read_mapping-requires-clause-count
read_mapping-requires-clause-count c =
    omega (arith, length-lines c.args.text.now, c.in-Ok.ensures.count)

pub returns-in-Err-clause-err : goal.returns-in-Err-clause-err
returns-in-Err-clause-err c =
    charmap_read c.args.text.now c.if-text.false
    (sym c.starts_with.ensures.value ∙ c.if-starts_with.false)
    ∙ c.in-Err.ensures.err

pub returns-in-Err-read_mapping-clause-err : goal.returns-in-Err-read_mapping-clause-err
returns-in-Err-read_mapping-clause-err c =
    let read =
    charmap_read c.args.text.now c.if-text.false
    (sym c.starts_with.ensures.value ∙ c.if-starts_with.false)
    ∙ c.in-Ok.ensures.ok in
    subst (λ r. Fails c.in-Err-read_mapping.fault r) (sym read) c.in-Err-read_mapping.ensures.err

pub returns-in-Ok-read_mapping-clause-ok : goal.returns-in-Ok-read_mapping-clause-ok
returns-in-Ok-read_mapping-clause-ok c =
    charmap_read c.args.text.now c.if-text.false
    (sym c.starts_with.ensures.value ∙ c.if-starts_with.false)
    ∙ c.in-Ok.ensures.ok ∙ c.in-Ok-read_mapping.ensures.ok
