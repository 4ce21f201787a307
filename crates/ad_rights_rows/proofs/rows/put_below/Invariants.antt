use Rattle.std.proofs.Common.{◌≡◌, ◌++◌, take}
use Rattle.std.specs.Prelude.{filter}
use Rattle.ad_dir_model.specs.Changes.{goes_with}
use Rattle.ad_rights_rows.proofs.rows.put_below.Given as goal

-- those so far
abbrev pub invariant-loop-number : goal.invariant-loop-number
invariant-loop-number l = l.into.items ≡ l.fn.into.items ++ filter (goes_with l.dir l.base) (take l.number-index l.all)
