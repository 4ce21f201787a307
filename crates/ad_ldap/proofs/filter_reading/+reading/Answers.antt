use Rattle.std.proofs.Common.{sym, ◌∙◌}
use Rattle.std.proofs.lemmas.Bool.{eqb-true, eqb-false}
use Rattle.std.proofs.lemmas.Result.{err_from_is_err_and}
use Rattle.ad_ldap.specs.FilterValue.{filter_seen, filters_seen}
use Rattle.ad_ldap.specs.Reading.{each_of}
use Rattle.ad_ldap.specs.FilterReading.{filter_at}
use Rattle.ad_ldap.proofs.Each.{each_goes_on, each_stops, each_done}
use Rattle.ad_ldap.proofs.filter_reading.+reading.Goals as goal

pub filters-returns-in_err-filter : goal.filters-returns-in_err-filter
filters-returns-in_err-filter t c =
    let p = err_from_is_err_and c.from_residual.result c.from_residual.ensures.1 in
    rw (p.1, p.2) (λ h. each_stops (filter_at c.args.levels c.args.end) (filters_seen c.each.filters) c.each.input
    c.in_err-filter.field-0.0 (each_of (filter_at c.args.levels) c.args.end c.args.input.now)
    (eqb-false _ _ (sym c.is_empty.ensures ∙ c.each-test.true)) (c.in_err-filter.ensures.read h) c.each.invariant)

pub filters-each-preserved : goal.filters-each-preserved
filters-each-preserved t c =
    rw c.in_ok-push.ensures.ok (each_goes_on (filter_at c.args.levels c.args.end) (filters_seen c.each.filters)
    c.each.input (filter_seen c.in_ok-filter.filter) c.filter.new.input
    (each_of (filter_at c.args.levels) c.args.end c.args.input.now)
    (eqb-false _ _ (sym c.is_empty.ensures ∙ c.each-test.true)) c.in_ok-filter.ensures.read
    c.in_ok-filter.ensures.left c.each.invariant)

pub filters-returns : goal.filters-returns
filters-returns t c = each_done (filter_at c.args.levels c.args.end) (filters_seen c.each.filters) c.each.input
    (each_of (filter_at c.args.levels) c.args.end c.args.input.now)
    (eqb-true _ _ (sym c.is_empty.ensures ∙ c.each-test.false)) c.each.invariant
