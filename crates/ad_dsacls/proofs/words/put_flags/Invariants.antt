use Rattle.std.proofs.Common.{◌≡◌, ◌++◌, take}
use Rattle.std.specs.List.{flat_map}
use Rattle.ad_dsacls.specs.Words.{own_flag}
use Rattle.ad_dsacls.proofs.words.put_flags.Given as goal

-- the codes so far are put
abbrev pub invariant-loop-code : goal.invariant-loop-code
invariant-loop-code l = l.out.items ≡ l.initial.out.items ++ flat_map (own_flag l.flags) (take l.code-index l.table)
