use Rattle.std.proofs.Common.{◌≡◌, ◌++◌, map, drop}
use Rattle.ad_needs.specs.Decoding.{attr_of}
use Rattle.ad_needs.proofs.decoding.attrs_of.Given as goal

-- those so far and those that are left are all
abbrev pub invariant-each : goal.invariant-each
invariant-each l = l.attrs.items ++ map (attr_of l.schema) (drop l.item-index l.items) ≡ map (attr_of l.schema) l.items
