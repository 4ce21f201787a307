use Rattle.std.proofs.Common.{true, false, ap, sym, ◌∙◌}
use Rattle.ad_ldif.specs.Lines.{lines_before_empty, blocks}
use Rattle.ad_ldif.proofs.LineLemmas.{parts, belongs, no_lines, test_is}
use Rattle.ad_ldif.proofs.cursor.Cursor.next_in_record.Goals as goal

pub returns-in_default-clause-lines : goal.returns-in_default-clause-lines
returns-in_default-clause-lines c =
    let none = rw c.in_default.is at c.in_ok-line.ensures.lines in
    (no_lines _ none.0).0

pub returns-in_default-clause-others : goal.returns-in_default-clause-others
returns-in_default-clause-others c =
    let none = rw c.in_default.is at c.in_ok-line.ensures.lines in
    (no_lines _ none.0).1 true ∙ sym ((no_lines _ none.1).1 false)

pub returns-then-is_empty-clause-lines : goal.returns-then-is_empty-clause-lines
returns-then-is_empty-clause-lines c =
    let cut = rw c.in-Some.is at c.in_ok-line.ensures.lines in
    ap lines_before_empty cut ∙ (parts _ _ (test_is _ _ _ _ c.bytes.ensures c.is_empty.ensures c.if-is_empty.true)).0

pub returns-then-is_empty-clause-others : goal.returns-then-is_empty-clause-others
returns-then-is_empty-clause-others c =
    let cut = rw c.in-Some.is at c.in_ok-line.ensures.lines in
    ap (blocks true) cut ∙ (parts _ _ (test_is _ _ _ _ c.bytes.ensures c.is_empty.ensures c.if-is_empty.true)).1 true

pub returns-clause-lines : goal.returns-clause-lines
returns-clause-lines c =
    let cut = rw c.in-Some.is at c.in_ok-line.ensures.lines in
    ap lines_before_empty cut ∙ (belongs _ _ (test_is _ _ _ _ c.bytes.ensures c.is_empty.ensures c.if-is_empty.false)).0

pub returns-clause-others : goal.returns-clause-others
returns-clause-others c =
    let cut = rw c.in-Some.is at c.in_ok-line.ensures.lines in
    ap (blocks true) cut ∙ (belongs _ _ (test_is _ _ _ _ c.bytes.ensures c.is_empty.ensures c.if-is_empty.false)).1
