use Rattle.std.proofs.Common.{◌≡◌, take}
use Rattle.std.specs.Prelude.{filter}
use Rattle.ad_dsacls.specs.Effective.{is_of_set}
use Rattle.ad_dsacls.proofs.asking.attrs_of_set.Given as goal

-- those so far
abbrev pub invariant-loop-attr : goal.invariant-loop-attr
invariant-loop-attr l = l.found.items ≡ filter (is_of_set l.dir.schema l.set) (take l.attr-index l.attrs)
