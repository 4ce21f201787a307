use Rattle.std.proofs.Common.{◌≡◌, ◌++◌, take}
use Rattle.std.specs.List.{flat_map}
use Rattle.ad_diff_rights.specs.Rights.{attribute_labels}
use Rattle.ad_diff_rights.specs.Asked.{grants_of}
use Rattle.ad_diff_rights.specs.Steps.{texts}
use Rattle.ad_diff_rights.proofs.rights.push_attributes.Given as goal

-- the labels so far
abbrev pub invariant-each : goal.invariant-each
invariant-each l =
    texts l.into.items ≡ texts l.fn.into.items
    ++ flat_map (attribute_labels l.asked.dir.now.schema (grants_of l.asked) l.fn.class)
    (take l.i l.attrs)
