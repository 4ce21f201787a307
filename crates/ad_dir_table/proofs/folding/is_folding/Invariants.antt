use Rattle.std.proofs.Common.{◌≡◌, length}
use Rattle.std.specs.Prelude.{chars}
use Rattle.std.specs.Str.{bytes_eq, IsUtf8}
use Rattle.ad_dn.specs.Fold.{folded}
use Rattle.ad_dir_table.proofs.folding.is_folding.Given as goal

-- of the others it is what it is of all
abbrev pub invariant-walk : goal.invariant-walk
invariant-walk l = (bytes_eq (folded l.rest.rest.now) l.left ≡ bytes_eq (folded l.text) l.bytes)
    × IsUtf8 l.rest.rest.now

abbrev pub decreases-walk : goal.decreases-walk
decreases-walk l = length (chars l.rest.rest.now)
