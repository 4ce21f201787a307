use Rattle.std.proofs.Common.{ℕ, List, [], ◌∷◌, ◌++◌, ap, ◌∙◌}
use Rattle.ad_search.specs.Subtree.{below_each, levels_from}
use Rattle.ad_search.proofs.SubtreeLaws.{level_more, levels_end}
use Rattle.ad_search.proofs.subtree.by_levels.Goals as goal

pub down-preserved : goal.down-preserved
down-preserved c =
    level_more c.args.dir.now.objects c.down.left c.down.level.items c.in_ok-below.below.items c.down.found.items
    c.extend_from_slice.new.self.items
    (levels_from c.args.dir.now.objects 65 (c.args.base ∷ []))
    c.down-test.true (c.in_ok-below.ensures ∙ ap (below_each c.args.dir.now.objects) c.as_slice.ensures.value)
    (c.in_ok-extend_from_slice.ensures.items ∙ ap (λ (ns : List ℕ). c.down.found.items ++ ns)
    c.as_slice-in-down.ensures.value) c.down.invariant

pub returns : goal.returns
returns c =
    levels_end c.args.dir.now.objects c.down.left c.down.level.items c.down.found.items
    (levels_from c.args.dir.now.objects 65 (c.args.base ∷ []))
    c.down-test.false c.down.invariant
