use Rattle.std.proofs.Common.{◌≡◌, drop}
use Rattle.ad_questions.specs.Asked.{right_named}
use Rattle.ad_questions.proofs.asked.right_named.Given as goal

-- none so far is of the kind and has the name
abbrev pub invariant-loop-right : goal.invariant-loop-right
invariant-loop-right l = right_named (drop l.right-index l.rights) l.kind l.name ≡ right_named l.rights l.kind l.name
