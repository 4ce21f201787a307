use Rattle.std.proofs.Common.{◌≡◌, drop}
use Rattle.std.specs.List.{list_any}
use Rattle.ad_principals.specs.Named.{names_root}
use Rattle.ad_principals.proofs.named.one_names_root.Given as goal

-- none so far does
abbrev pub invariant-loop-number : goal.invariant-loop-number
invariant-loop-number l = list_any (names_root l.dir) l.numbers
    ≡ list_any (names_root l.dir) (drop l.number-index l.numbers)
