use Rattle.std.proofs.Common.{◌≡◌, length}
use Rattle.ad_schema_classes.specs.Rows.{HaveRows}
use Rattle.ad_schema_classes.proofs.rows.all_rows.Given as goal

abbrev pub invariant-loop-i : goal.invariant-loop-i
invariant-loop-i l = record {
  long : length l.all.items ≡ l.i;
  rows : HaveRows l.links l.cn l.attrs l.all.items;
}
