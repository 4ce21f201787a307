use Rattle.std.proofs.Common.{◌≡◌, ◌<◌, ℕ, length}
use Rattle.std.specs.Prelude.{unwrap_or}
use Rattle.std.specs.Option.{option_copied}
use Rattle.ad_sd.specs.Seen.{seen}
use Rattle.ad_sd.specs.View.{to_come}
use Rattle.ad_rights.specs.Entry.{granted_by}
use Rattle.ad_rights.specs.Holding.{listed}
use Rattle.ad_rights.specs.Standing.{stand_at}
use Rattle.ad_rights.proofs.set.walk.Given as goal

-- what stands so far, before what the other entries grant, is what all entries grant
abbrev pub invariant-loop-ace : goal.invariant-loop-ace
invariant-loop-ace l = record {
  len : length l.stands ≡ length l.fn.stands;
  each : (q : ℕ) → q < length l.fn.stands → unwrap_or (stand_at l.stands q)
      (granted_by (listed l.holding.holders) (to_come l.ace-iterator) (option_copied l.self_sid) l.owner l.path l.bit q)
      ≡ unwrap_or (stand_at l.fn.stands q) (granted_by (listed l.holding.holders) (seen l.view).dacl.entries
      (option_copied l.self_sid) l.owner l.path l.bit q);
}
