use Rattle.std.proofs.Common.{◌≡◌}
use Rattle.std.specs.Prelude.{chars, slice_get}
use Rattle.std.specs.Str.{IsUtf8}
use Rattle.ad_dir.proofs.settings.character_at.Given as goal

-- it is the one that is so far behind what was passed
abbrev pub invariant-walk : goal.invariant-walk
invariant-walk l = (slice_get (chars l.rest.rest.now) l.left ≡ slice_get (chars l.text) l.place)
    × IsUtf8 l.rest.rest.now

abbrev pub decreases-walk : goal.decreases-walk
decreases-walk l = l.left
