use Rattle.std.proofs.Common.{◌≡◌, ◌++◌, take}
use Rattle.ad_dn.specs.Text.{others_text}
use Rattle.ad_dn.proofs.text.push_others.Given as goal

-- the parts so far were written
abbrev pub invariant-loop-rdn : goal.invariant-loop-rdn
invariant-loop-rdn l = l.text.items ≡ l.initial.text.items ++ others_text (take l.rdn-index l.rdns)
