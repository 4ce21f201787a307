use Rattle.std.proofs.Common.{◌≡◌, ◌++◌, take}
use Rattle.std.specs.String.{string_bytes}
use Rattle.ad_sddl.specs.Canonical.{codes_text}
use Rattle.ad_sddl.proofs.printing.push_codes.Given as goal

-- the codes so far are written
abbrev pub invariant-loop-code : goal.invariant-loop-code
invariant-loop-code l = string_bytes l.text ≡ string_bytes l.initial.text ++ codes_text (take l.code-index l.table)
    l.mask
