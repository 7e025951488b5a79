use Rattle.std.proofs.Common.{◌∙◌, Err, sym, ap, length, arith}
use Rattle.std.proofs.lemmas.Bool.{eqb-true, eqb-false}
use Rattle.charmap_words.specs.Symbols.{span_of}
use Rattle.charmap_reader.specs.Mapping.{ranged}
use Rattle.charmap_reader.proofs.Lines.{mapped_empty, mapped_word, ranged_members, ranged_none, range_ends}
use Rattle.charmap_reader.proofs.Ranges.{point_below}
use Rattle.charmap_reader.proofs.mapping.members_of.Goals as goal

pub returns-then-is_empty-clause-fault : goal.returns-then-is_empty-clause-fault
returns-then-is_empty-clause-fault c =
    mapped_empty c.args.escape (span_of c.args.first.now) c.in-Some.span c.args.second.now
    (sym c.read_span.ensures.value ∙ c.in-Some.is)
    (eqb-true (length c.args.second.now) 0 (sym c.is_empty.ensures ∙ c.if-is_empty.true))

pub returns-in-Err-BadCode-clause-fault : goal.returns-in-Err-BadCode-clause-fault
returns-in-Err-BadCode-clause-fault c =
    mapped_word c.args.escape (span_of c.args.first.now) c.in-Some.span c.args.second.now
    (sym c.read_span.ensures.value ∙ c.in-Some.is)
    (eqb-false (length c.args.second.now) 0 (sym c.is_empty.ensures ∙ c.if-is_empty.false))
    ∙ ap (ranged c.in-Some.span) (sym c.read_code.ensures ∙ c.in-Err-BadCode.is
    ∙ ap Err c.in-Err-BadCode.field-0-is)

pub returns-in-Err-CodeLength-clause-fault : goal.returns-in-Err-CodeLength-clause-fault
returns-in-Err-CodeLength-clause-fault c =
    mapped_word c.args.escape (span_of c.args.first.now) c.in-Some.span c.args.second.now
    (sym c.read_span.ensures.value ∙ c.in-Some.is)
    (eqb-false (length c.args.second.now) 0 (sym c.is_empty.ensures ∙ c.if-is_empty.false))
    ∙ ap (ranged c.in-Some.span) (sym c.read_code.ensures ∙ c.in-Err-CodeLength.is
    ∙ ap Err c.in-Err-CodeLength.field-0-is)

pub returns-then-not-is_range-clause-fault : goal.returns-then-not-is_range-clause-fault
returns-then-not-is_range-clause-fault c =
    mapped_word c.args.escape (span_of c.args.first.now) c.in-Some.span c.args.second.now
    (sym c.read_span.ensures.value ∙ c.in-Some.is)
    (eqb-false (length c.args.second.now) 0 (sym c.is_empty.ensures ∙ c.if-is_empty.false))
    ∙ ap (ranged c.in-Some.span) (sym c.read_code.ensures ∙ c.in-Ok.is)
    ∙ ranged_none c.in-Some.span c.in-Ok.code (sym c.is_range.ensures ∙ c.if-not-is_range.true)

pub overflow_add-result : goal.overflow_add-result
overflow_add-result c = omega (arith, point_below c.in-Some.span.last c.in-Some.ensures.points.1)

pub returns-clause-pairs : goal.returns-clause-pairs
returns-clause-pairs c =
    mapped_word c.args.escape (span_of c.args.first.now) c.in-Some.span c.args.second.now
    (sym c.read_span.ensures.value ∙ c.in-Some.is)
    (eqb-false (length c.args.second.now) 0 (sym c.is_empty.ensures ∙ c.if-is_empty.false))
    ∙ ap (ranged c.in-Some.span) (sym c.read_code.ensures ∙ c.in-Ok.is)
    ∙ ranged_members c.in-Some.span c.in-Ok.code (sym c.is_range.ensures
    ∙ c.if-not-is_range.false)

pub returns-clause-points : goal.returns-clause-points
returns-clause-points c =
    omega (
      arith,
      point_below c.in-Some.span.last c.in-Some.ensures.points.1,
      (range_ends c.in-Some.span c.in-Ok.code (sym c.is_range.ensures ∙ c.if-not-is_range.false)).0,
    )
