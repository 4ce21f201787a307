use Rattle.std.proofs.Common.{◌≡◌, drop}
use Rattle.ad_dir_table.specs.Hashes.{with_all}
use Rattle.ad_dir_table.proofs.hashes.with_bytes.Given as goal

-- behind the others it is the state behind all
abbrev pub invariant-loop-byte : goal.invariant-loop-byte
invariant-loop-byte l = with_all l.state (drop l.byte-index l.bytes) ≡ with_all l.fn.hasher l.bytes
