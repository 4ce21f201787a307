use Rattle.std.proofs.Common.{◌≡◌, take}
use Rattle.ad_needs.proofs.SentLaws.{gets}
use Rattle.ad_needs.proofs.sent.values_in.Given as goal

-- those of the attributes so far
abbrev pub invariant-loop-attr : goal.invariant-loop-attr
invariant-loop-attr l = l.values ≡ gets l.schema l.class.0 (take l.attr-index l.attrs)
