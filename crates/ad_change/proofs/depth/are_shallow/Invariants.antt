use Rattle.std.proofs.Common.{◌≡◌, ℕ, drop}
use Rattle.std.specs.Prelude.{nat_le}
use Rattle.std.specs.List.{list_all}
use Rattle.ad_dir_model.specs.Limits.{max_depth}
use Rattle.ad_change.specs.Depths.{parent_then}
use Rattle.ad_change.specs.Tree.{depth_of}
use Rattle.ad_change.proofs.depth.are_shallow.Given as goal

-- all are none too deep where those that are left are
abbrev pub invariant-each : goal.invariant-each
invariant-each l =
    list_all (λ (n : ℕ). nat_le (depth_of (parent_then l.dir l.moved l.parent) n) max_depth)
    (drop l.number-index l.numbers)
    ≡ list_all (λ (n : ℕ). nat_le (depth_of (parent_then l.dir l.moved l.parent) n) max_depth) l.numbers
