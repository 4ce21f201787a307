use Rattle.std.proofs.Common.{◌∙◌}
use Rattle.std.proofs.lemmas.Result.{err_from_is_err_and}
use Rattle.ad_ldif.proofs.ResultLemmas.{fails_by}
use Rattle.ad_ldif.proofs.ChangeLemmas.{one_control, the_type, bad_line, no_kind}
use Rattle.ad_ldif.proofs.changing.read_openings.Goals as goal

pub returns-in_err-control-clause-opened : goal.returns-in_err-control-clause-opened
returns-in_err-control-clause-opened c =
    let p = err_from_is_err_and c.from_residual-in_err-control.result c.from_residual-in_err-control.ensures.1 in
    let cut = rw c.in-Some.is at c.in_ok-line.ensures.lines in
    rw (p.1, p.2) (fails_by _ _ _ c.lines.invariant.opened
    (bad_line _ _ _ _ _ c.in_err-control.field-0.0 cut c.in_err-control.ensures))

pub returns-in-Type-clause-opened : goal.returns-in-Type-clause-opened
returns-in-Type-clause-opened c =
    let cut = rw c.in-Some.is at c.in_ok-line.ensures.lines in
    c.lines.invariant.opened ∙ the_type _ _ _ _ _ _ cut (rw c.in-Type.is at c.in_ok-control.ensures)

pub lines-preserved-in_ok-push-in-Control : goal.lines-preserved-in_ok-push-in-Control
lines-preserved-in_ok-push-in-Control c =
    let cut = rw c.in-Some.is at c.in_ok-line.ensures.lines in
    record {
      opened = c.lines.invariant.opened ∙ rw c.in_ok-push-in-Control.ensures.ok
          (one_control _ _ _ _ _ _ cut (rw c.in-Control.is at c.in_ok-control.ensures));
      others = c.lines.invariant.others ∙ rw c.in-Some.is at c.in_ok-line.ensures.others;
    }

pub lines-preserved : goal.lines-preserved
lines-preserved c =
    let cut = rw c.in-Some.is at c.in_ok-line.ensures.lines in
    record {
      opened = c.lines.invariant.opened ∙ rw c.in_ok-push-in-Control.ensures.ok
          (one_control _ _ _ _ _ _ cut (rw c.in-Control.is at c.in_ok-control.ensures));
      others = c.lines.invariant.others ∙ rw c.in-Some.is at c.in_ok-line.ensures.others;
    }

pub returns-clause-opened : goal.returns-clause-opened
returns-clause-opened c =
    let none = rw c.in_default.is at c.in_ok-line.ensures.lines in
    c.lines.invariant.opened ∙ no_kind _ _ _ none
