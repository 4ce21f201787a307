use Rattle.std.proofs.Common.{◌≡◌, [], false, ap, sym, ◌∙◌}
use Rattle.ad_ldif.specs.Lines.{lines_from, blocks}
use Rattle.ad_ldif.proofs.LineLemmas.{at_end, an_empty_line_is, a_text_line_is, some_record}
use Rattle.ad_ldif.proofs.ResultLemmas.{on_err}
use Rattle.ad_ldif.proofs.cursor.Cursor.next_line.Goals as goal

pub returns-then-is_empty-clause-lines : goal.returns-then-is_empty-clause-lines
returns-then-is_empty-clause-lines c =
    let at = c.skip_comments.new.self in
    let none : lines_from at.number at.rest.now ≡ [] = at_end at.number at.rest.now _ c.is_empty.ensures
    c.if-is_empty.true in
    (c.skip_comments.ensures.lines ∙ none, none)

pub returns-then-is_empty-2-clause-lines : goal.returns-then-is_empty-2-clause-lines
returns-then-is_empty-2-clause-lines c =
    let taken = c.take_physical-first in
    c.skip_comments.ensures.lines ∙ an_empty_line_is c.skip_comments.new.self.number taken.new.self.number _
    taken.result.now taken.new.self.rest.now _ c.is_empty-2.ensures c.if-is_empty-2.true taken.ensures.line
    taken.ensures.number

pub returns-clause-lines : goal.returns-clause-lines
returns-clause-lines c =
    let taken = c.take_physical-first in
    c.skip_comments.ensures.lines
    ∙ a_text_line_is c.skip_comments.new.self.number taken.new.self.number _ taken.result.now taken.new.self.rest.now
    _ _ _ c.skip_comments.ensures.passed c.is_empty-2.ensures c.if-is_empty-2.false taken.ensures.line
    taken.ensures.number
    c.in_ok-text.ensures.text c.in_ok-text.ensures.lines

pub returns-in_err-text-clause-err : goal.returns-in_err-text-clause-err
returns-in_err-text-clause-err c =
    let taken = c.take_physical-first in
    let some : blocks false (lines_from c.args.self.now.number c.args.self.now.rest.now) ≡ [] → ⊥ =
    λ none. some_record c.skip_comments.new.self.number _ taken.result.now taken.new.self.rest.now _
    c.skip_comments.ensures.passed c.is_empty-2.ensures c.if-is_empty-2.false taken.ensures.line
    (sym (ap (blocks false) c.skip_comments.ensures.lines) ∙ none) in
    on_err _ _ some
