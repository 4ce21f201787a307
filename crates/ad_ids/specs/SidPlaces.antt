-- The fixed places in which sub-authorities are kept.
use Rattle.std.specs.Prelude.{◌≡◌, ℕ, ◌-◌, List, length, take, drop, replicate, Result, Ok, Err}
use Rattle.ad_bytes.specs.declared.input.Short.{Short}
use Rattle.ad_bytes.specs.Reading.{Reading}

-- The places hold the sub-authorities that were read, and zeros after them.
pub record HoldsPlaces (count : ℕ) (places others : List ℕ) : Type 0 where
  pub read : others ≡ take count places
  pub all : length places ≡ 15
  pub padded : drop count places ≡ replicate (15 - count) 0

abbrev pub ReadsPlaces : ℕ → Result (List ℕ) Short → List ℕ → Reading (List ℕ) Short → Type 0
ReadsPlaces count (Ok places) left read = (others : List ℕ) × (read ≡ Ok (others, left)) × HoldsPlaces count places
    others
ReadsPlaces count (Err e) left read = read ≡ Err e
