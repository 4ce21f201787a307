use Rattle.std.proofs.Common.{◌≡◌, ℕ, Bool, List, ◌||◌, ◌&&◌, sym, ap, ◌∙◌}
use Rattle.ad_schema_classes.specs.declared.links.ClassLinks.{ClassLinks}
use Rattle.ad_schema_classes.specs.Chains.{contains}
use Rattle.ad_schema_classes.specs.Rows.{part_of}
use Rattle.ad_schema_classes.specs.Flags.{flag_at}
use Rattle.ad_schema_classes.proofs.RowLemmas.{marked, or_false, listed_at, listed_end}
use Rattle.ad_schema_classes.proofs.flags.mark_listed.Goals as goal

pub loop-n-preserved : goal.loop-n-preserved
loop-n-preserved c = λ j lt.
    let step = listed_at (part_of c.args.part) (flag_at c.args.set.now) c.args.links.now c.loop-n.n j
    c.index-links-n.result c.loop-n-test.true c.index-links-n.is in
    let new : flag_at c.mark_all_if.new.row j ≡ flag_at c.loop-n.row j
    || (flag_at c.args.set.now c.loop-n.n && contains (part_of c.args.part c.index-links-n.result) j) =
    c.mark_all_if.ensures j (rw c.mark_all_if.auto.row at lt)
    ∙ ap (λ (b : Bool). flag_at c.loop-n.row j || (b && contains c.part_of.result.now j)) c.flag_at.ensures
    ∙ ap (λ (l : List ℕ). flag_at c.loop-n.row j || (flag_at c.args.set.now c.loop-n.n && contains l j))
    c.part_of.ensures in
    marked _ _ _ _ _ _ new step (c.loop-n.invariant j (rw c.mark_all_if.auto.row at lt))

pub returns : goal.returns
returns c = λ j lt.
    or_false _ _ _ (c.loop-n.invariant j (rw (sym c.loop-n.auto.row) at lt))
    (listed_end (part_of c.args.part) (flag_at c.args.set.now) c.args.links.now c.loop-n.n j c.loop-n-test.false)
