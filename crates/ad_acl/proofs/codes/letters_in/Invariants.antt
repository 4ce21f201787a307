use Rattle.std.proofs.Common.{◌≡◌, drop}
use Rattle.ad_acl.specs.Codes.{letters_in}
use Rattle.ad_acl.proofs.codes.letters_in.Given as goal

-- none so far has the bits
abbrev pub invariant-loop-code : goal.invariant-loop-code
invariant-loop-code l = letters_in (drop l.code-index l.table) l.bits ≡ letters_in l.table l.bits
