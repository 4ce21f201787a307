use Rattle.std.proofs.Common.{◌≡◌, ℕ, ◌<◌, ◌||◌, drop, length}
use Rattle.ad_schema_classes.specs.Chains.{contains}
use Rattle.ad_schema_classes.specs.Flags.{flag_at}
use Rattle.ad_schema_classes.proofs.flags.mark_all.Given as goal

abbrev pub invariant-loop-k : goal.invariant-loop-k
invariant-loop-k l = (j : ℕ) → j < length l.row → (flag_at l.row j || contains (drop l.k-index l.list) j)
    ≡ (flag_at l.initial.row j || contains l.list j)
