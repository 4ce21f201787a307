use Rattle.std.proofs.Common.{sym, ◌∙◌}
use Rattle.std.proofs.lemmas.Bool.{eqb-true, eqb-false}
use Rattle.std.proofs.lemmas.Result.{err_from_is_err_and}
use Rattle.ad_ldap.specs.Reading.{inside_at, each_of}
use Rattle.ad_ldap.specs.RequestReading.{item_of}
use Rattle.ad_ldap.proofs.Each.{each_starts, each_goes_on, each_stops, each_done}
use Rattle.ad_ldap.proofs.request_reading.items.Goals as goal

pub each-init : goal.each-init
each-init c = rw c.new-items.ensures (each_starts (inside_at 48 item_of c.args.end) c.args.input.now)

pub returns-in_err-item : goal.returns-in_err-item
returns-in_err-item c =
    let p = err_from_is_err_and c.from_residual.result c.from_residual.ensures.1 in
    rw (p.1, p.2) (λ h. each_stops (inside_at 48 item_of c.args.end) c.each.items c.each.input c.in_err-item.field-0.0
    (each_of (inside_at 48 item_of) c.args.end c.args.input.now)
    (eqb-false _ _ (sym c.is_empty.ensures ∙ c.each-test.true)) (c.in_err-item.ensures.read h) c.each.invariant)

pub each-preserved : goal.each-preserved
each-preserved c =
    rw c.in_ok-push.ensures.ok (each_goes_on (inside_at 48 item_of c.args.end) c.each.items c.each.input
    c.in_ok-item.item c.item_inside.new.input (each_of (inside_at 48 item_of) c.args.end c.args.input.now)
    (eqb-false _ _ (sym c.is_empty.ensures ∙ c.each-test.true)) c.in_ok-item.ensures.read
    c.in_ok-item.ensures.left c.each.invariant)

pub returns : goal.returns
returns c = each_done (inside_at 48 item_of c.args.end) c.each.items c.each.input
    (each_of (inside_at 48 item_of) c.args.end c.args.input.now)
    (eqb-true _ _ (sym c.is_empty.ensures ∙ c.each-test.false)) c.each.invariant
