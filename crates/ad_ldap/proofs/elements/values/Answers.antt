use Rattle.std.proofs.Common.{sym, ◌∙◌}
use Rattle.std.proofs.lemmas.Bool.{eqb-true, eqb-false}
use Rattle.std.proofs.lemmas.Result.{err_from_is_err_and}
use Rattle.ad_ldap.specs.Reading.{body_at, values_of}
use Rattle.ad_ldap.proofs.Each.{each_starts, each_goes_on, each_stops, each_done}
use Rattle.ad_ldap.proofs.elements.values.Goals as goal

pub each-init : goal.each-init
unfolding values_of
each-init c = rw c.new-values.ensures (each_starts (body_at 4 c.args.end) c.args.input.now)

pub returns-in_err-value : goal.returns-in_err-value
returns-in_err-value c =
    let p = err_from_is_err_and c.from_residual.result c.from_residual.ensures.1 in
    rw (p.1, p.2) (λ h. each_stops (body_at 4 c.args.end) c.each.values c.each.input c.in_err-value.field-0.0
    (values_of c.args.end c.args.input.now) (eqb-false _ _ (sym c.is_empty.ensures ∙ c.each-test.true))
    (c.in_err-value.ensures.read h) c.each.invariant)

pub each-preserved : goal.each-preserved
each-preserved c =
    rw c.in_ok-push.ensures.ok (each_goes_on (body_at 4 c.args.end) c.each.values c.each.input c.in_ok-value.value
    c.octets.new.input (values_of c.args.end c.args.input.now)
    (eqb-false _ _ (sym c.is_empty.ensures ∙ c.each-test.true)) c.in_ok-value.ensures.read
    c.in_ok-value.ensures.left c.each.invariant)

pub returns : goal.returns
returns c = each_done (body_at 4 c.args.end) c.each.values c.each.input (values_of c.args.end c.args.input.now)
    (eqb-true _ _ (sym c.is_empty.ensures ∙ c.each-test.false)) c.each.invariant
