-- Counts of faults over several calls.
use Rattle.std.proofs.Common.{inl, inr, ℕ, ◌≤◌, arith}
use Rattle.site_io.specs.Counts.{HasRisen}

pub risen_since : (before mid after : ℕ) → before ≤ mid → HasRisen mid after → HasRisen before after
risen_since before mid after le (inl rose) = inl (omega arith)
risen_since before mid after le (inr at_end) = inr at_end
