use Rattle.std.proofs.Common.{◌≡◌, ◌≤◌, length, drop, reverse}
use Rattle.ad_dir_model.specs.Names.{begins_with}
use Rattle.ad_dir.proofs.names.before.Given as goal

-- the parts so far are the same
abbrev pub invariant-loop-i : goal.invariant-loop-i
invariant-loop-i l = (begins_with (drop l.i (reverse l.rdns)) (drop l.i (reverse l.suffix))
    ≡ begins_with (reverse l.rdns) (reverse l.suffix)) × (l.i ≤ length l.rdns)
