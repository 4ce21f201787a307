use Rattle.std.proofs.Common.{◌≡◌, take}
use Rattle.ad_dn.specs.NameKey.{rdns_key}
use Rattle.ad_dn.proofs.name_key.rdns_key.Given as goal

abbrev pub invariant-loop-rdn : goal.invariant-loop-rdn
invariant-loop-rdn l = l.key.items ≡ rdns_key (take l.rdn-index l.rdns)
