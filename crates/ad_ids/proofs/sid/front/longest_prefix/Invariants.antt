use Rattle.std.proofs.Common.{◌≡◌}
use Rattle.ad_ids.specs.SidFront.{longest, longest_front}
use Rattle.ad_ids.proofs.sid.front.longest_prefix.Given as goal

-- no longer prefix is an identifier's text
abbrev pub invariant-loop-len : goal.invariant-loop-len
invariant-loop-len l = longest l.len l.text ≡ longest_front l.text
