use Rattle.std.proofs.Common.{◌≡◌, drop}
use Rattle.ad_sddl.specs.Words.{find}
use Rattle.ad_sddl.proofs.words.find.Given as goal

-- none of the codes so far is the one
abbrev pub invariant-loop-code : goal.invariant-loop-code
invariant-loop-code l = find (drop l.code-index l.table) l.first l.second ≡ find l.table l.first l.second
