use Rattle.std.proofs.Common.{◌≡◌, drop, reverse}
use Rattle.ad_dir_model.specs.Names.{found_below}
use Rattle.ad_dir.proofs.names.found_below.Given as goal

-- what the parts that are left find from here
abbrev pub invariant-loop-i : goal.invariant-loop-i
invariant-loop-i l = found_below l.dir l.at (drop l.i (reverse l.rdns)) ≡ found_below l.dir l.number (reverse l.rdns)
