use Rattle.std.proofs.Common.{◌≡◌, ◌++◌, length}
use Rattle.std.specs.List.{flat_map}
use Rattle.ad_dn.specs.Grammar.{piece_text}
use Rattle.ad_dn.specs.Text.{pieces_after}
use Rattle.ad_dn.proofs.text.push_bytes.Given as goal

-- what was written, and what the bytes that are left give, is what all give
abbrev pub invariant-loop-byte : goal.invariant-loop-byte
invariant-loop-byte l = l.text.items ++ flat_map piece_text (pieces_after l.due l.rest)
    ≡ l.initial.text.items ++ flat_map piece_text (pieces_after 0 l.bytes)

abbrev pub decreases-loop-byte : goal.decreases-loop-byte
decreases-loop-byte l = length l.rest
