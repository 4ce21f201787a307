use Rattle.std.proofs.Common.{List, sym, subst}
use Rattle.std.specs.Prelude.{IfOk}
use Rattle.ad_dir_objects.specs.declared.act.ActItem.{ActItem}
use Rattle.ad_dir_objects.specs.declared.act.Act.TheVariants as act
use Rattle.ad_needs_rules.specs.Verdicts.{Resolves}
use Rattle.ad_change.specs.Plans.{IsPlan}
use Rattle.ad_change.proofs.modifying.modify_plan.Goals as goal

pub plan_of-requires : goal.plan_of-requires
plan_of-requires c = record {
  sound = c.requires.sound;
  resolved = subst (λ (xs : List ActItem). Resolves c.args.dir.now c.args.token.now
      (act.Modify c.args.target xs c.args.sd.now)) (sym c.as_slice.ensures) c.requires.resolved;
}

pub returns : goal.returns
returns c =
    subst (λ (xs : List ActItem). IfOk c.plan_of.result
    (IsPlan c.args.dir.now c.args.token.now (act.Modify c.args.target xs c.args.sd.now)))
    c.as_slice.ensures c.plan_of.ensures
