use Rattle.std.proofs.Common.{◌∙◌, ℕ, ap}
use Rattle.ad_dir_objects.specs.declared.act.Act.TheVariants as act
use Rattle.ad_needs_rules.specs.declared.outcome.Verdict.TheVariants.{Granted}
use Rattle.ad_needs.specs.Moves.{parent_by, rename_rest, rename_judged}
use Rattle.ad_needs_rules.proofs.Refusing.{refuses, grants}
use Rattle.ad_needs.proofs.renaming.verdict_there.Goals as goal

pub returns-in-Some : goal.returns-in-Some
unfolding rename_judged
returns-in-Some c =
    refuses (rename_rest c.args.dir.now c.args.token.now c.args.number c.args.rdn c.args.superior)
    (act.Rename c.args.number (parent_by c.args.dir.now c.args.number c.args.superior) c.args.rdn.value)
    c.in-Some.refusal (rw c.in-Some.is at c.in_ok-refusal.ensures)

pub returns-in-None : goal.returns-in-None
unfolding rename_judged
returns-in-None c =
    ap (λ (p : ℕ). Granted (act.Rename c.args.number p c.args.rdn.value)) c.new_parent.ensures.parent
    ∙ grants (rename_rest c.args.dir.now c.args.token.now c.args.number c.args.rdn c.args.superior)
    (act.Rename c.args.number (parent_by c.args.dir.now c.args.number c.args.superior) c.args.rdn.value)
    (rw c.in-None.is at c.in_ok-refusal.ensures)
