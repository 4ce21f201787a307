use Rattle.std.proofs.Common.{◌≡◌, take}
use Rattle.std.specs.Str.{str_to_ascii_uppercase}
use Rattle.ad_dn.proofs.making.upper.Given as goal

-- the bytes so far
abbrev pub invariant-loop-byte : goal.invariant-loop-byte
invariant-loop-byte l = l.upper ≡ str_to_ascii_uppercase (take l.byte-index l.bytes)
