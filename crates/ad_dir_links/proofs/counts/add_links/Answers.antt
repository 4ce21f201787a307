use Rattle.std.proofs.Common.{refl, sym, subst}
use Rattle.std.specs.Prelude.{take}
use Rattle.std.proofs.Common.{get_or}
use Rattle.ad_dir_links.specs.Counted.{Keeps}
use Rattle.ad_dir_links.proofs.Counting.{adds_none, adds_next, adds_all, adds_keeps}
use Rattle.ad_dir_links.proofs.counts.add_links.Goals as goal

pub each-init : goal.each-init
each-init c = adds_none c.args.holder c.args.links.now.entries

pub returns-in_err-add_one-clause-keeps : goal.returns-in_err-add_one-clause-keeps
returns-in_err-add_one-clause-keeps c =
    subst (Keeps c.args.links.now.entries) (sym c.in_err-add_one.ensures.err)
    (adds_keeps c.args.holder (take c.each.target-index c.args.targets.now) c.args.links.now.entries
    c.each.links.entries c.each.invariant)

pub each-preserved : goal.each-preserved
each-preserved c =
    adds_next c.args.holder c.args.targets.now c.each.target-index (get_or c.args.targets.now c.each.target-index 0)
    c.args.links.now.entries c.each.links.entries c.add_one.new.links.entries
    c.each-test.true refl c.each.invariant c.in_ok-add_one.ensures.ok

pub returns-clause-ok : goal.returns-clause-ok
returns-clause-ok c = adds_all c.args.holder c.args.targets.now c.each.target-index c.args.links.now.entries
    c.each.links.entries c.each-test.false c.each.invariant

pub returns-clause-keeps : goal.returns-clause-keeps
returns-clause-keeps c =
    adds_keeps c.args.holder (take c.each.target-index c.args.targets.now) c.args.links.now.entries
    c.each.links.entries c.each.invariant
