use Rattle.std.proofs.Common.{◌≡◌, map, take}
use Rattle.ad_ldifmod_message.specs.Asked.{control_asked}
use Rattle.ad_ldifmod_message.proofs.asking.controls.Given as goal

abbrev pub invariant-each : goal.invariant-each
invariant-each l = l.asked ≡ map control_asked (take l.control-index l.controls)
