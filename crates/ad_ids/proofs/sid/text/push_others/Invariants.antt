use Rattle.std.proofs.Common.{◌≡◌, ◌++◌, take}
use Rattle.std.specs.String.{string_bytes}
use Rattle.ad_ids.specs.SidText.{others_text}
use Rattle.ad_ids.proofs.sid.text.push_others.Given as goal

-- the text of the numbers so far stands after
abbrev pub invariant-loop-other : goal.invariant-loop-other
invariant-loop-other l = string_bytes l.text ≡ string_bytes l.fn.text ++ others_text (take l.other-index l.others)
