use Rattle.std.proofs.Common.{inl, inr, ⊎_elim, arith, ◌<◌, ◌≤◌, ℕ}
use Rattle.std.proofs.lemmas.Bool.{cases_lt}
use Rattle.site_io.specs.Counts.{HasRisen}
use Rattle.site_io.proofs.Counts.{risen_since}
use Rattle.site_io.proofs.laws.counts_rise.Goals as goal

early : (before between after : ℕ) → before ≤ between → between ≤ after → HasRisen before between
    → HasRisen before after
early before between after le less (inl rose) = inl (omega arith)
early before between after le less (inr at_end) = ⊎_elim
    (λ (more : between < after). inl (omega arith))
    (λ (same : after ≤ between). inr (omega arith))
    (cases_lt between after)

pub returns : goal.returns
returns c = λ before between after le less. λ rose. ⊎_elim (early before between after le less)
    (risen_since before between after le) rose
