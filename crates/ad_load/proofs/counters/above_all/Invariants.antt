use Rattle.std.proofs.Common.{◌≡◌, ◌≤◌, ◌^◌, map, drop}
use Rattle.ad_load.specs.Links.{above_all}
use Rattle.ad_load_objects.specs.Seen.{draft_seen}
use Rattle.ad_load.proofs.counters.above_all.Given as goal

-- the number is above those so far
abbrev pub invariant-loop-draft : goal.invariant-loop-draft
invariant-loop-draft l = record {
  value : above_all l.schema l.domain l.n (map draft_seen (drop l.draft-index l.drafts)) ≡ above_all l.schema l.domain
      1000 (map draft_seen l.drafts);
  small : l.n ≤ 2 ^ 32;
}
