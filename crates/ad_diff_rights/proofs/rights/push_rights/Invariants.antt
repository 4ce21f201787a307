use Rattle.std.proofs.Common.{◌≡◌, ◌++◌, take}
use Rattle.std.specs.List.{flat_map}
use Rattle.ad_diff_rights.specs.Rights.{right_labels}
use Rattle.ad_diff_rights.specs.Asked.{grants_of}
use Rattle.ad_diff_rights.specs.Steps.{texts}
use Rattle.ad_diff_rights.proofs.rights.push_rights.Given as goal

-- the labels so far
abbrev pub invariant-loop-right : goal.invariant-loop-right
invariant-loop-right l =
    texts l.into.items ≡ texts l.fn.into.items
    ++ flat_map (right_labels l.asked.dir.now.schema (grants_of l.asked) l.class)
    (take l.right-index l.rights)
