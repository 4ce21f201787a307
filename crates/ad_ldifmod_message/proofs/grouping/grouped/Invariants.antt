use Rattle.std.proofs.Common.{◌≡◌, map, take}
use Rattle.ad_ldif.specs.Records.{field_of}
use Rattle.ad_ldifmod_message.specs.Asked.{grouped}
use Rattle.ad_ldifmod_message.proofs.grouping.grouped.Given as goal

abbrev pub invariant-lines : goal.invariant-lines
invariant-lines l = record {
  names : l.names ≡ map (λ a. a.0) l.attrs.items;
  attrs : l.attrs.items ≡ grouped (map field_of (take l.line-index l.lines));
}
