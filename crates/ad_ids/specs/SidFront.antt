-- The longest prefix of a text that encodes an identifier, as a function of the text.
unfoldable pub use Rattle.ad_ids.specs.SidOfText.{sid_of_text}
use Rattle.std.specs.Prelude.{ℕ, zero, suc, Option, Some, None, List, length, take, drop}
use Rattle.ad_ids.specs.SidValue.{SidValue}

abbrev pub or_shorter : List ℕ → Option (SidValue × List ℕ) → Option SidValue → Option (SidValue × List ℕ)
or_shorter behind shorter (Some sid) = Some (sid, behind)
or_shorter behind shorter None = shorter

-- the longest prefix of at most n bytes that encodes an identifier, and the bytes after it
unfoldable pub longest : ℕ → List ℕ → Option (SidValue × List ℕ)
longest zero text = None
longest (suc n) text = or_shorter (drop (suc n) text) (longest n text) (sid_of_text (take (suc n) text))

-- the longest prefix that encodes an identifier, and the bytes after it
abbrev pub longest_front : List ℕ → Option (SidValue × List ℕ)
longest_front text = longest (length text) text

-- an identifier and the length of its text, as the bytes after it
abbrev pub with_length : List ℕ → Option (SidValue × ℕ) → Option (SidValue × List ℕ)
with_length text None = None
with_length text (Some found) = Some (found.0, drop found.1 text)
