use Rattle.std.proofs.Common.{sym, ◌∙◌}
use Rattle.std.proofs.lemmas.Result.{err_from_is_err_and}
use Rattle.ad_ldap.specs.FilterReading.{middle_of}
use Rattle.ad_ldap.proofs.Each.{middle_starts, middle_goes_on, middle_stops, middle_done}
use Rattle.ad_ldap.proofs.filter_reading.middle.Goals as goal

pub each-init : goal.each-init
each-init c = rw c.new-pieces.ensures (middle_starts c.args.end c.args.input.now)

pub returns-in_err-octets : goal.returns-in_err-octets
returns-in_err-octets c =
    let p = err_from_is_err_and c.from_residual.result c.from_residual.ensures.1 in
    rw (p.1, p.2) (λ h. middle_stops c.args.end c.each.pieces c.each.input c.in_err-octets.field-0.0
    (middle_of c.args.end c.args.input.now) (sym c.begins.ensures ∙ c.each-test.true)
    (c.in_err-octets.ensures.read h) c.each.invariant)

pub each-preserved : goal.each-preserved
each-preserved c =
    rw c.in_ok-push.ensures.ok (middle_goes_on c.args.end c.each.pieces c.each.input c.in_ok-octets.octets
    c.octets.new.input (middle_of c.args.end c.args.input.now) (sym c.begins.ensures ∙ c.each-test.true)
    c.in_ok-octets.ensures.read c.in_ok-octets.ensures.left c.each.invariant)

pub returns : goal.returns
returns c = middle_done c.args.end c.each.pieces c.each.input (middle_of c.args.end c.args.input.now)
    (sym c.begins.ensures ∙ c.each-test.false) c.each.invariant
