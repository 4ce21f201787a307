use Rattle.std.proofs.Common.{◌≤◌, length}
use Rattle.ad_dir_links.proofs.Balance.{IsSplit}
use Rattle.ad_dir_links.proofs.change.matched.Given as goal

abbrev pub invariant-each : goal.invariant-each
invariant-each l = (l.place ≤ length l.new) × IsSplit l.old l.new l.target-index l.place l.less.items
