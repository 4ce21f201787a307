use Rattle.std.proofs.Common.{◌≡◌, ◌++◌, take}
use Rattle.std.specs.List.{flat_map}
use Rattle.ad_acl.specs.Mask.{has_bit}
use Rattle.ad_diff_rights.specs.Rights.{label_if}
use Rattle.ad_diff_rights.specs.Steps.{texts}
use Rattle.ad_diff_rights.proofs.labelling.push_labels.Given as goal

-- the labels so far
abbrev pub invariant-loop-code : goal.invariant-loop-code
invariant-loop-code l =
    texts l.into.items ≡ texts l.fn.into.items
    ++ flat_map (label_if (has_bit l.mask) l.kind) (take l.code-index l.codes)
