use Rattle.std.proofs.Common.{◌≡◌, drop}
use Rattle.ad_access_dir.specs.Allowed.{applies}
use Rattle.ad_diff_rights.proofs.rights.applies.Given as goal

-- none so far is that of the class or one above it
abbrev pub invariant-loop-guid : goal.invariant-loop-guid
invariant-loop-guid l =
    applies l.schema l.class.0 (drop l.guid-index l.guids) ≡ applies l.schema l.class.0 l.guids
