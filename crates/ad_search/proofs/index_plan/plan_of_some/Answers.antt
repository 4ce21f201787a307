use Rattle.std.proofs.Common.{List, subst}
use Rattle.ad_schema.specs.declared.line.SchemaRecord.{SchemaRecord}
use Rattle.ad_search.specs.Needles.{IsPlainNamed}
use Rattle.ad_search.proofs.NeedLaws.{needs_some}
use Rattle.ad_search.proofs.index_plan.plan_of_some.Goals as goal

pub returns-in-Some : goal.returns-in-Some
returns-in-Some c =
    let plans = needs_some c.args.dir.now c.args.name.now c.in-Some.attr
    (subst (λ (records : List SchemaRecord). IsPlainNamed records c.args.name.now c.in-Some.attr) c.schema.ensures
    c.in-Some.ensures) in
    record {
      present = plans.present;
      pieces = plans.pieces;
      at_least = plans.at_least;
      at_most = plans.at_most;
    }
