use Rattle.std.proofs.Common.{◌≡◌, ℕ, ◌<◌, ◌||◌, drop, map, length}
use Rattle.ad_schema_classes.specs.Chains.{listed}
use Rattle.ad_schema_classes.specs.Rows.{part_of}
use Rattle.ad_schema_classes.specs.Flags.{flag_at}
use Rattle.ad_schema_classes.proofs.flags.mark_listed.Given as goal

abbrev pub invariant-loop-n : goal.invariant-loop-n
invariant-loop-n l = (j : ℕ) → j < length l.row
    → (flag_at l.row j || listed (flag_at l.set) l.n (drop l.n (map (part_of l.part) l.links)) j)
    ≡ (flag_at l.initial.row j || listed (flag_at l.set) 0 (map (part_of l.part) l.links) j)
