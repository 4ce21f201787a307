use Rattle.std.proofs.Common.{◌≡◌, ◌++◌, take}
use Rattle.ad_needs_rules.specs.Needs.{others_text}
use Rattle.ad_needs_rules.proofs.telling.push_others.Given as goal

-- the alternatives so far were told
abbrev pub invariant-loop-want : goal.invariant-loop-want
invariant-loop-want l = l.into.items ≡ l.initial.into.items ++ others_text l.dir (take l.want-index l.wants)
