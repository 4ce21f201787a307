use Rattle.std.proofs.Common.{◌≡◌, true, take}
use Rattle.std.specs.List.{list_all}
use Rattle.ad_dn.specs.Parts.{is_ordinary}
use Rattle.ad_dn.proofs.parts.ordinary_len.Given as goal

abbrev pub invariant-loop-place : goal.invariant-loop-place
invariant-loop-place l = list_all is_ordinary (take l.place l.text) ≡ true
