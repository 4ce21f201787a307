use Rattle.std.proofs.Common.{◌≡◌, ℕ, ◌++◌, List, drop}
use Rattle.std.specs.Prelude.{encode_utf8_all}
use Rattle.std.specs.Str.{bytes_eq}
use Rattle.ad_dir_table.proofs.folding.past_all.Given as goal

-- behind the others it is what it is behind all
abbrev pub invariant-loop-character : goal.invariant-loop-character
invariant-loop-character l = (more : List ℕ) → bytes_eq (encode_utf8_all l.characters ++ more) l.fn.bytes
    ≡ bytes_eq (encode_utf8_all (drop l.character-index l.characters) ++ more) l.rest
