use Rattle.std.proofs.Common.{false, ap, ◌∙◌}
use Rattle.ad_ldif.specs.Lines.{blocks}
use Rattle.ad_ldif.proofs.LineLemmas.{parts, belongs, no_lines, test_is}
use Rattle.ad_ldif.proofs.cursor.Cursor.next_record.Goals as goal

pub returns-then-not-is_empty-clause-records : goal.returns-then-not-is_empty-clause-records
returns-then-not-is_empty-clause-records c =
    let cut = rw c.in-Some.is at c.in_ok-line.ensures.lines in
    c.loop-line.invariant ∙ ap (blocks false) cut
    ∙ (belongs _ _ (test_is _ _ _ _ c.bytes.ensures c.is_empty.ensures c.if-not-is_empty.true)).2

pub loop-line-preserved-else-not-is_empty : goal.loop-line-preserved-else-not-is_empty
loop-line-preserved-else-not-is_empty c =
    let cut = rw c.in-Some.is at c.in_ok-line.ensures.lines in
    c.loop-line.invariant ∙ ap (blocks false) cut
    ∙ (parts _ _ (test_is _ _ _ _ c.bytes.ensures c.is_empty.ensures c.if-not-is_empty.false)).1 false

pub loop-line-preserved : goal.loop-line-preserved
loop-line-preserved c =
    let cut = rw c.in-Some.is at c.in_ok-line.ensures.lines in
    c.loop-line.invariant ∙ ap (blocks false) cut
    ∙ (parts _ _ (test_is _ _ _ _ c.bytes.ensures c.is_empty.ensures c.if-not-is_empty.false)).1 false

pub returns-clause-records : goal.returns-clause-records
returns-clause-records c =
    let none = rw c.in_default.is at c.in_ok-line.ensures.lines in
    c.loop-line.invariant ∙ (no_lines _ none.0).1 false
