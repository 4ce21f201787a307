use Rattle.std.proofs.Common.{◌≡◌, drop}
use Rattle.ad_questions.specs.Asked.{bit_in}
use Rattle.ad_questions.proofs.codes.bit_in.Given as goal

-- none so far has the letters
abbrev pub invariant-loop-code : goal.invariant-loop-code
invariant-loop-code l = bit_in (drop l.code-index l.table) l.letters ≡ bit_in l.table l.letters
