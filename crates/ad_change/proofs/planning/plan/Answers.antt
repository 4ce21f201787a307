use Rattle.std.proofs.Common.{List, ℕ, sym, subst, ap, ◌∙◌}
use Rattle.std.specs.Prelude.{IfOk}
use Rattle.ad_schema.specs.declared.info.AttrId.{AttrId}
use Rattle.ad_dir_objects.specs.declared.act.Act.{Act}
use Rattle.ad_dir_objects.specs.declared.act.Act.TheVariants as act
use Rattle.ad_needs_rules.specs.Verdicts.{Resolves}
use Rattle.ad_change.specs.Plans.{IsPlan}
use Rattle.ad_change.proofs.planning.plan.Goals as goal

pub add_plan-requires : goal.add_plan-requires
add_plan-requires c = record {
  sound = c.requires.sound;
  resolved = subst (Resolves c.args.dir.now c.args.token.now)
      (c.in-Add.is ∙ ap (λ (vs : List (AttrId × List (List ℕ))). act.Add c.in-Add.parent c.in-Add.class c.in-Add.name
      vs c.in-Add.sd) (sym c.as_slice.ensures)) c.requires.resolved;
}

pub returns-in-Add : goal.returns-in-Add
returns-in-Add c =
    subst (λ (a : Act). IfOk c.add_plan.result (IsPlan c.args.dir.now c.args.token.now a))
    (ap (λ (vs : List (AttrId × List (List ℕ))). act.Add c.in-Add.parent c.in-Add.class c.in-Add.name vs c.in-Add.sd)
    c.as_slice.ensures ∙ sym c.in-Add.is) c.add_plan.ensures

pub delete_plan-requires : goal.delete_plan-requires
delete_plan-requires c = record {
  sound = c.requires.sound;
  resolved = (c.args.token.now, subst (Resolves c.args.dir.now c.args.token.now) c.in-Delete.is c.requires.resolved);
}

pub rename_plan-requires : goal.rename_plan-requires
rename_plan-requires c = record {
  sound = c.requires.sound;
  resolved = (c.args.token.now, subst (Resolves c.args.dir.now c.args.token.now) c.in-Rename.is c.requires.resolved);
}

pub returns-in-Delete : goal.returns-in-Delete
returns-in-Delete c =
    subst (λ (a : Act). IfOk c.delete_plan.result (IsPlan c.args.dir.now c.args.token.now a)) (sym c.in-Delete.is)
    (c.delete_plan.ensures c.args.token.now)

pub returns-in-Rename : goal.returns-in-Rename
returns-in-Rename c =
    subst (λ (a : Act). IfOk c.rename_plan.result (IsPlan c.args.dir.now c.args.token.now a)) (sym c.in-Rename.is)
    (c.rename_plan.ensures c.args.token.now)
