use Rattle.std.proofs.Common.{◌≡◌, ◌++◌, true}
use Rattle.ad_dir_model.specs.Objects.{is_live}
use Rattle.ad_dir_model.specs.Names.{rdns_within, rdns_of}
use Rattle.ad_dir.proofs.names.dn_of.Given as goal

-- the parts so far, and those from here up
abbrev pub invariant-loop-left : goal.invariant-loop-left
invariant-loop-left l = (l.rdns ++ rdns_within l.dir l.left l.at ≡ rdns_of l.dir l.number)
    × (is_live l.dir.objects l.at ≡ true)

abbrev pub decreases-loop-left : goal.decreases-loop-left
decreases-loop-left l = l.left
