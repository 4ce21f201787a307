use Rattle.std.proofs.Common.{◌≡◌, drop}
use Rattle.ad_sddl.specs.Words.{find_alias}
use Rattle.ad_sddl.proofs.words.find_alias.Given as goal

-- none of the aliases so far is the one
abbrev pub invariant-loop-alias : goal.invariant-loop-alias
invariant-loop-alias l = find_alias (drop l.alias-index l.table) l.first l.second ≡ find_alias l.table l.first l.second
