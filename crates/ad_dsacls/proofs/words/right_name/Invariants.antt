use Rattle.std.proofs.Common.{◌≡◌, drop}
use Rattle.ad_dsacls.specs.Words.{right_name}
use Rattle.ad_dsacls.proofs.words.right_name.Given as goal

-- none so far has the GUID
abbrev pub invariant-loop-right : goal.invariant-loop-right
invariant-loop-right l = right_name (drop l.right-index l.rights) l.guid ≡ right_name l.rights l.guid
