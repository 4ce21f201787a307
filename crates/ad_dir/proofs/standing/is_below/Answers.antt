use Rattle.std.proofs.Common.{◌-◌, sym, ap, ◌∙◌}
use Rattle.ad_dir_model.specs.Tree.{is_below_within}
use Rattle.ad_dir_model.specs.Directory.{parents}
use Rattle.ad_dir.proofs.StepsUp.{above_all, above_root, above_found, above_step, above_none}
use Rattle.ad_dir.proofs.standing.is_below.Goals as goal

pub up-init : goal.up-init
up-init c = above_all (parents c.args.dir.now) c.args.other c.args.number

pub returns-then-at-eq-ROOT : goal.returns-then-at-eq-ROOT
returns-then-at-eq-ROOT c = sym (above_root (parents c.args.dir.now) c.up.left c.args.other c.up.at
    c.if-at-eq-ROOT.true) ∙ c.up.invariant

pub returns-then-at-other : goal.returns-then-at-other
returns-then-at-other c =
    sym (above_found (parents c.args.dir.now) c.up.left c.args.other c.up.at c.up-test.true c.if-at-eq-ROOT.false
    (sym c.parent_number-at.ensures ∙ c.if-at-other.true))
    ∙ c.up.invariant

pub up-preserved : goal.up-preserved
up-preserved c =
    ap (is_below_within (parents c.args.dir.now) (c.up.left - 1) c.args.other) c.parent_number-at.ensures
    ∙ sym (above_step (parents c.args.dir.now) c.up.left c.args.other c.up.at c.up-test.true c.if-at-eq-ROOT.false
    (λ e. c.if-at-other.false (c.parent_number-at.ensures ∙ e)))
    ∙ c.up.invariant

pub returns : goal.returns
returns c = sym (above_none (parents c.args.dir.now) c.up.left c.args.other c.up.at c.up-test.false) ∙ c.up.invariant
