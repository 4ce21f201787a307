-- Bytes that begin with others.
use Rattle.std.specs.Prelude.{◌≡◌, List, ℕ, ◌++◌}

-- the bytes are the piece, and what stands after it
pub record IsFront (piece bytes : List ℕ) : Type 0 where
  pub behind : List ℕ
  pub parts : bytes ≡ piece ++ behind
