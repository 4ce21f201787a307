use Rattle.std.proofs.Common.{◌≡◌, take}
use Rattle.ad_types.specs.Path.{last_guid}
use Rattle.ad_types.proofs.type_path.last_of.Given as goal

-- the last one so far
abbrev pub invariant-loop-guid : goal.invariant-loop-guid
invariant-loop-guid l = l.last ≡ last_guid (take l.guid-index l.guids)
