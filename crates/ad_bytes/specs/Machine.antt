-- A reader of texts as a machine: a state, and a step for each byte.
use Rattle.std.specs.Prelude.{◌≡◌, ℕ, ◌+◌, ◌<◌, List, [], ◌∷◌, length, take, Option, Some, None}

-- the state after these bytes; none where a byte is no step
abbrev pub run : {S : Type 0} → (S → ℕ → Option S) → Option S → List ℕ → Option S
run step None bytes = None
run step (Some s) [] = Some s
run step (Some s) (b ∷ bytes) = run step (step s b) bytes

-- the bytes before the offset are steps, and the byte there is none
pub record StopsAt {S : Type 0} (step : S → ℕ → Option S) (start : S) (offset : ℕ) (text : List ℕ) : Type 0 where
  pub within : offset < length text
  pub last : S
  pub steps : run step (Some start) (take offset text) ≡ Some last
  pub stops : run step (Some start) (take (offset + 1) text) ≡ None
