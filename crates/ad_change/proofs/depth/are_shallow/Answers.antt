use Rattle.std.proofs.Common.{ℕ, Bool, sym, ap, ◌∙◌, arith}
use Rattle.std.specs.Prelude.{nat_le}
use Rattle.std.specs.List.{list_all}
use Rattle.ad_dir_model.specs.Limits.{max_depth}
use Rattle.ad_change.specs.Depths.{parent_then}
use Rattle.ad_change.specs.Tree.{depth_of}
use Rattle.ad_change.proofs.DepthLaws.{is_too_deep, is_not_deep, all_stops, all_more}
use Rattle.ad_change.proofs.depth.are_shallow.Goals as goal

pub returns-then-depth_then-gt-MAX_DEPTH : goal.returns-then-depth_then-gt-MAX_DEPTH
returns-then-depth_then-gt-MAX_DEPTH c =
    let test : ℕ → Bool = λ (n : ℕ). nat_le (depth_of (parent_then c.args.dir.now c.args.moved c.args.parent) n)
    max_depth in
    all_stops test c.args.numbers.now c.each.number-index (list_all test c.args.numbers.now) c.each-test.true
    (ap (λ (d : ℕ). nat_le d max_depth) (sym c.depth_then.ensures) ∙ is_too_deep c.depth_then.result
    (omega (arith, c.if-depth_then-gt-MAX_DEPTH.true)))
    c.each.invariant

pub each-preserved : goal.each-preserved
each-preserved c =
    let test : ℕ → Bool = λ (n : ℕ). nat_le (depth_of (parent_then c.args.dir.now c.args.moved c.args.parent) n)
    max_depth in
    all_more test c.args.numbers.now c.each.number-index (list_all test c.args.numbers.now) c.each-test.true
    (ap (λ (d : ℕ). nat_le d max_depth) (sym c.depth_then.ensures) ∙ is_not_deep c.depth_then.result
    (omega (arith, c.if-depth_then-gt-MAX_DEPTH.false)))
    c.each.invariant
