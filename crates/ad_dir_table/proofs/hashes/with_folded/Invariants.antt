use Rattle.std.proofs.Common.{◌≡◌, drop}
use Rattle.std.specs.Prelude.{encode_utf8_all}
use Rattle.ad_dir_table.specs.Hashes.{with_all}
use Rattle.ad_dir_table.proofs.hashes.with_folded.Given as goal

-- behind the others it is the state behind all
abbrev pub invariant-loop-character : goal.invariant-loop-character
invariant-loop-character l = with_all l.state (encode_utf8_all (drop l.character-index l.folded))
    ≡ with_all l.fn.hasher (encode_utf8_all l.folded)
