use Rattle.std.proofs.Common.{◌≡◌, drop}
use Rattle.ad_diff_rights.specs.Changes.{has_label}
use Rattle.ad_diff_rights.specs.Steps.{texts}
use Rattle.ad_diff_rights.proofs.sought.place_in.Given as goal

-- none so far is this one
abbrev pub invariant-loop-other : goal.invariant-loop-other
invariant-loop-other l =
    has_label (texts (drop l.other-index l.labels)) l.label ≡ has_label (texts l.labels) l.label
