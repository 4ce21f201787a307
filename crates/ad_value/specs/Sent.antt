-- The pattern that pieces make which were sent with a search: each is a value of the attribute's syntax, and the
-- pattern has its key.
use Rattle.std.specs.Prelude.{ℕ, List, [], ◌∷◌, Option, Some, None, Result, Ok, Err}
use Rattle.std.specs.Result.{result_ok}
use Rattle.ad_bytes.specs.Reading.{◌>>=◌, need}
use Rattle.ad_value.specs.declared.syntax.Syntax.{Syntax}
use Rattle.ad_value.specs.declared.value.Key.{Key}
use Rattle.ad_value.specs.declared.value.Key.TheVariants as key
use Rattle.ad_value.specs.declared.pattern.Pattern.{Pattern}
use Rattle.ad_value.specs.declared.fault.ValueFault.{ValueFault}
use Rattle.ad_value.specs.declared.fault.ValueFault.TheVariants as fault
use Rattle.ad_value.specs.Syntax.{has_pieces}
use Rattle.ad_value.specs.ValueOf.{normal_or_fault}

-- pieces are searched for in bytes alone
abbrev pub bytes_of : Key → Result (List ℕ) ValueFault
bytes_of (key.Bytes bytes) = Ok bytes
bytes_of (key.Number n) = Err fault.Syntax

-- the key of a piece, as of any value of the syntax
abbrev pub piece_key : Syntax → List ℕ → Result (List ℕ) ValueFault
piece_key s piece = normal_or_fault s piece >>= λ v. bytes_of v.key

abbrev pub piece_key_if : Syntax → Option (List ℕ) → Result (Option (List ℕ)) ValueFault
piece_key_if s None = Ok None
piece_key_if s (Some piece) = piece_key s piece >>= λ key. Ok (Some key)

unfoldable pub piece_keys : Syntax → List (List ℕ) → Result (List (List ℕ)) ValueFault
piece_keys s [] = Ok []
piece_keys s (piece ∷ pieces) = do
  first ← piece_key s piece
  others ← piece_keys s pieces
  Ok (first ∷ others)

-- the pattern, or the first fault of a piece from the left
unfoldable pub sent_or_fault : Syntax → Pattern → Result Pattern ValueFault
sent_or_fault s sent = do
  _ ← need (has_pieces s) fault.Syntax
  first ← piece_key_if s sent.first
  middle ← piece_keys s sent.middle
  last ← piece_key_if s sent.last
  Ok (record { first = first; middle = middle; last = last })

-- the pattern, or none where the syntax isn't searched for pieces or a piece is no value of it
abbrev pub pattern_of : Syntax → Pattern → Option Pattern
pattern_of s sent = result_ok (sent_or_fault s sent)
