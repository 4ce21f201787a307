use Rattle.std.proofs.Common.{◌≡◌, ◌++◌, ℕ, drop, map}
use Rattle.std.specs.List.{filter}
use Rattle.ad_dir_model.specs.Directory.{parents}
use Rattle.ad_dir_model.specs.Changes.{goes_with}
use Rattle.ad_change.specs.Tree.{depth_of}
use Rattle.ad_change.proofs.leaves.all_going.Given as goal

-- those so far and those that are left
abbrev pub invariant-each : goal.invariant-each
invariant-each l =
    l.found.items ++ map (λ (one : ℕ). (depth_of (parents l.dir) one, one))
    (filter (goes_with l.dir l.target) (drop l.number-index l.numbers))
    ≡ map (λ (one : ℕ). (depth_of (parents l.dir) one, one)) (filter (goes_with l.dir l.target) l.numbers)
