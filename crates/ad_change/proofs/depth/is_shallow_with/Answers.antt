use Rattle.std.proofs.Common.{ℕ, sym, ap, ◌∙◌}
use Rattle.std.specs.Prelude.{nat_le}
use Rattle.std.specs.List.{list_all}
use Rattle.ad_dir_model.specs.Limits.{max_depth}
use Rattle.ad_change.specs.Depths.{parent_then}
use Rattle.ad_change.specs.Tree.{depth_of}
use Rattle.ad_change.proofs.DepthLaws.{shallow_then, shallow_in_place}
use Rattle.ad_change.proofs.depth.is_shallow_with.Goals as goal

pub returns-then-parent_number-parent : goal.returns-then-parent_number-parent
returns-then-parent_number-parent c = λ name. shallow_in_place c.args.dir.now c.args.target c.args.parent name
    c.requires.sound c.requires.live
    (sym c.parent_number.ensures ∙ c.if-parent_number-parent.true)

pub returns : goal.returns
returns c = λ name. c.are_shallow.ensures
    ∙ ap (list_all (λ (n : ℕ). nat_le (depth_of (parent_then c.args.dir.now c.args.target c.args.parent) n)
    max_depth)) (c.as_slice.ensures.value ∙ c.in_ok-numbers.ensures)
    ∙ shallow_then c.args.dir.now c.args.target c.args.parent name c.requires.live
