use Rattle.std.proofs.Common.{sym, ◌∙◌}
use Rattle.std.specs.Option.{option_copied}
use Rattle.std.proofs.lemmas.Result.{err_from_is_err_and}
use Rattle.ad_load.specs.Links.{with_default, all_defaults}
use Rattle.ad_load_objects.proofs.Through.{item_through, item_stops, items_through}
use Rattle.ad_load.proofs.limits.check_defaults.Goals as goal

pub returns-in_err-check_default : goal.returns-in_err-check_default
unfolding all_defaults
returns-in_err-check_default c =
    let p = err_from_is_err_and c.from_residual.result c.from_residual.ensures.1 in
    rw (p.1, p.2) (λ m. sym c.loop-info.invariant ∙ item_stops
    (with_default
    (option_copied c.args.domain)) c.classes-info-items.result.now c.loop-info.info-index c.info-item.result tt
    c.in_err-check_default.field-0.0 c.loop-info-test.true (sym c.info-item.is)
    (c.in_err-check_default.ensures m))

pub loop-info-preserved : goal.loop-info-preserved
loop-info-preserved c =
    sym (item_through
    (with_default
    (option_copied c.args.domain)) c.classes-info-items.result.now c.loop-info.info-index c.info-item.result tt tt
    c.loop-info-test.true (sym c.info-item.is) c.in_ok-check_default.ensures)
    ∙ c.loop-info.invariant

pub returns : goal.returns
unfolding all_defaults
returns c = sym c.loop-info.invariant ∙ items_through (with_default
    (option_copied c.args.domain)) c.classes-info-items.result.now c.loop-info.info-index tt c.loop-info-test.false
