use Rattle.std.proofs.Common.{◌≡◌, drop}
use Rattle.std.specs.BTreeSet.{contains}
use Rattle.ad_change_values.specs.StoredKeys.{stored_order}
use Rattle.ad_change_values.specs.Values.{are_repeated}
use Rattle.ad_change_values.proofs.RepeatLaws.{comes_again}
use Rattle.ad_change_values.proofs.repeated.one_comes_again.Given as goal

-- one of those to come has the key of one so far or of a later one
abbrev pub invariant-loop-value : goal.invariant-loop-value
invariant-loop-value l = are_repeated l.read ≡ comes_again (contains stored_order l.keys) (drop l.value-index l.read)
