use Rattle.std.proofs.Common.{◌≡◌, ◌++◌}
use Rattle.ad_diff_rights.specs.Rights.{children_labels}
use Rattle.ad_diff_rights.specs.Asked.{grants_of}
use Rattle.ad_diff_rights.specs.Steps.{texts}
use Rattle.ad_diff_rights.proofs.rights.push_children.Given as goal

-- the labels so far
abbrev pub invariant-each : goal.invariant-each
invariant-each l =
    texts l.into.items ≡ texts l.fn.into.items
    ++ children_labels l.asked.dir.now.schema (grants_of l.asked) l.class l.place
