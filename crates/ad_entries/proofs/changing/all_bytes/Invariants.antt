use Rattle.std.proofs.Common.{◌≡◌}
use Rattle.ad_constructed.specs.Names.{all_items}
use Rattle.ad_entries.proofs.changing.all_bytes.Given as goal

-- those so far
abbrev pub invariant-loop-value : goal.invariant-loop-value
invariant-loop-value l = l.bytes ≡ all_items l.yielded
