use Rattle.std.proofs.Common.{◌≡◌, drop}
use Rattle.ad_dsacls.specs.Words.{class_name}
use Rattle.ad_dsacls.proofs.words.class_name.Given as goal

-- none so far has the GUID
abbrev pub invariant-loop-class : goal.invariant-loop-class
invariant-loop-class l = class_name (drop l.class-index l.classes) l.guid ≡ class_name l.classes l.guid
