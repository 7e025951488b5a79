use Rattle.std.proofs.Common.{◌≡◌, ◌++◌, ◌∙◌, ◌||◌, [], Ok, sym, ap, length, arith, append-nil}
use Rattle.charmap_reader.specs.Rows.{Row, row_of, is_skipped}
use Rattle.charmap_reader.specs.Mapping.{is_end, is_marked, mapped, members, row_pairs, ok_pairs}
use Rattle.charmap_words.specs.Symbols.{span_of}
use Rattle.charmap_reader.proofs.Lines.{same_row, passed_row, mapped_row, length-members, fault_few, fault_many}
use Rattle.charmap_reader.proofs.mapping.read_mapping_line.Goals as goal

pub returns-then-is_passed : goal.returns-then-is_passed
returns-then-is_passed c =
    let s = c.args.signs in
    let r = row_of c.args.line.now in
    let same = same_row c.two_words.result.0.now c.two_words.result.1.now c.args.line.now
    c.two_words.ensures.first c.two_words.ensures.second in
    let none : row_pairs s r ≡ Ok [] =
    passed_row s r (ap (λ (x : Row). is_marked x.first || is_skipped s.comment x.first)
    (sym same) ∙ sym c.is_passed.ensures ∙ c.if-is_passed.true) in (
      ap (is_end s) (sym same) ∙ sym c.is_end.ensures ∙ c.if-is_end.false,
      fault_few (length c.args.pairs.now.items) (row_pairs s r) [] none (omega (arith, c.requires)),
      sym (ap (λ o. c.args.pairs.now.items ++ ok_pairs o) none ∙ append-nil c.args.pairs.now.items),
    )

pub returns-then-len-members-gt2097152 : goal.returns-then-len-members-gt2097152
returns-then-len-members-gt2097152 c =
    let s = c.args.signs in
    let r = row_of c.args.line.now in
    let m = c.in-Ok.members in
    let same = same_row c.two_words.result.0.now c.two_words.result.1.now c.args.line.now
    c.two_words.ensures.first c.two_words.ensures.second in
    let pairs : row_pairs s r ≡ Ok (members m.point m.code m.count) =
    mapped_row s r (ap (λ (x : Row). is_marked x.first || is_skipped s.comment x.first) (sym same)
    ∙ sym c.is_passed.ensures ∙ c.if-is_passed.false)
    ∙ ap (λ (x : Row). mapped s.escape (span_of x.first) x.second) (sym same)
    ∙ c.in-Ok.ensures.pairs in (
      ap (is_end s) (sym same) ∙ sym c.is_end.ensures ∙ c.if-is_end.false,
      fault_many (length c.args.pairs.now.items) (row_pairs s r) (members m.point m.code m.count)
          pairs
          (omega (
            arith,
            c.if-len-members-gt2097152.true,
            c.len.ensures,
            length-members m.point
                m.code m.count,
          )),
    )

pub returns-in_ok-push_members-in-Ok : goal.returns-in_ok-push_members-in-Ok
returns-in_ok-push_members-in-Ok c =
    let s = c.args.signs in
    let r = row_of c.args.line.now in
    let m = c.in-Ok.members in
    let same = same_row c.two_words.result.0.now c.two_words.result.1.now c.args.line.now
    c.two_words.ensures.first c.two_words.ensures.second in
    let pairs : row_pairs s r ≡ Ok (members m.point m.code m.count) =
    mapped_row s r (ap (λ (x : Row). is_marked x.first || is_skipped s.comment x.first) (sym same)
    ∙ sym c.is_passed.ensures ∙ c.if-is_passed.false)
    ∙ ap (λ (x : Row). mapped s.escape (span_of x.first) x.second) (sym same)
    ∙ c.in-Ok.ensures.pairs in (
      ap (is_end s) (sym same) ∙ sym c.is_end.ensures ∙ c.if-is_end.false,
      fault_few (length c.args.pairs.now.items) (row_pairs s r) (members m.point m.code m.count)
          pairs
          (omega (
            arith,
            c.if-len-members-gt2097152.false,
            c.len.ensures,
            length-members m.point
                m.code m.count,
          )),
      c.in_ok-push_members-in-Ok.ensures
          ∙ ap (λ o. c.args.pairs.now.items ++ ok_pairs o) (sym pairs),
    )
