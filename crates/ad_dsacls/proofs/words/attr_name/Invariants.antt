use Rattle.std.proofs.Common.{◌≡◌, drop}
use Rattle.ad_dsacls.specs.Words.{attr_name}
use Rattle.ad_dsacls.proofs.words.attr_name.Given as goal

-- none so far has the GUID
abbrev pub invariant-loop-attr : goal.invariant-loop-attr
invariant-loop-attr l = attr_name (drop l.attr-index l.attrs) l.guid ≡ attr_name l.attrs l.guid
