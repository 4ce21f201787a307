use Rattle.std.proofs.Common.{◌≡◌}
use Rattle.ad_dir_model.specs.Tree.{is_below_within, is_below}
use Rattle.ad_dir_model.specs.Directory.{parents}
use Rattle.ad_dir.proofs.standing.is_below.Given as goal

-- it stands above where it does from here
abbrev pub invariant-up : goal.invariant-up
invariant-up l = is_below_within (parents l.dir) l.left l.other l.at ≡ is_below (parents l.dir) l.other l.number

abbrev pub decreases-up : goal.decreases-up
decreases-up l = l.left
