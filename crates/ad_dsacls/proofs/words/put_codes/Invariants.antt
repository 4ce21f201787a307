use Rattle.std.proofs.Common.{◌≡◌, ◌++◌, take}
use Rattle.ad_sddl.specs.Canonical.{codes_text}
use Rattle.ad_dsacls.proofs.words.put_codes.Given as goal

-- the codes so far are put
abbrev pub invariant-loop-code : goal.invariant-loop-code
invariant-loop-code l = l.out.items ≡ l.initial.out.items ++ codes_text (take l.code-index l.table) l.mask
