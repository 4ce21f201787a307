use Rattle.std.proofs.Common.{ℕ, List, [], ◌∷◌, ◌++◌, sym, subst, ap, ◌∙◌}
use Rattle.ad_change.specs.Removing.{IsLeaving, AreGoing}
use Rattle.ad_change.proofs.LeafOrder.{going_ok}
use Rattle.ad_change.proofs.SubtreeLaws.{going_alone}
use Rattle.ad_change.proofs.deleting.going_of.Goals as goal

pub returns-then-alone : goal.returns-then-alone
returns-then-alone c =
    subst (AreGoing c.args.dir.now c.args.target)
    (sym (c.in_ok-push.ensures.items ∙ ap (λ (ns : List ℕ). ns ++ c.args.target ∷ []) c.new-going.ensures.items))
    (going_alone c.args.dir.now c.args.target c.requires.sound.rise
    (subst (IsLeaving c.args.dir.now c.args.target) c.if-alone.true c.requires.leaving))

pub returns : goal.returns
returns c = going_ok c.args.dir.now c.args.target c.requires.sound c.requires.below c.going_leaves_first.result
    c.going_leaves_first.ensures
