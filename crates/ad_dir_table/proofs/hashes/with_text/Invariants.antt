use Rattle.std.proofs.Common.{◌≡◌, length}
use Rattle.std.specs.Prelude.{chars}
use Rattle.std.specs.Str.{IsUtf8}
use Rattle.ad_dn.specs.Fold.{folded}
use Rattle.ad_dir_table.specs.Hashes.{with_all}
use Rattle.ad_dir_table.proofs.hashes.with_text.Given as goal

-- behind the others it is the state behind all
abbrev pub invariant-walk : goal.invariant-walk
invariant-walk l = (with_all l.state (folded l.rest.rest.now) ≡ with_all l.fn.hasher (folded l.text))
    × IsUtf8 l.rest.rest.now

abbrev pub decreases-walk : goal.decreases-walk
decreases-walk l = length (chars l.rest.rest.now)
