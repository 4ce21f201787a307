use Rattle.std.proofs.Common.{◌≡◌, [], ℕ, get_or, take}
use Rattle.ad_diff_rights.specs.Steps.{texts}
use Rattle.ad_diff.proofs.bases.is_quiet_row.Given as goal

-- none so far has lines
abbrev pub invariant-loop-lines : goal.invariant-loop-lines
invariant-loop-lines l = (kind : ℕ) → get_or (texts (take l.lines-index l.row)) kind [] ≡ []
