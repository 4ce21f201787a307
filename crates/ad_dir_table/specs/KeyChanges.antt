-- How the key of one number changes, and what that makes of a map from keys to numbers.
use Rattle.std.specs.Prelude.{◌≡◌, ℕ, Option, Some, None, ◌⊎◌}

-- Where the key stays, nothing is put and nothing taken.
pub record IsTable {V : Type 0} (was now to from : Option V) : Type 0 where
  pub same : was ≡ now
  pub no_put : to ≡ None
  pub no_take : from ≡ None

-- Otherwise the new one is put, if there is one, and the old one is taken out.
pub record IsOther {V : Type 0} (was now to from : Option V) : Type 0 where
  pub put : to ≡ now
  pub taken : from ≡ was
  pub apart : (v : V) → now ≡ Some v → was ≡ Some v → ⊥

abbrev pub IsChange : {V : Type 0} → Option V → Option V → Option V → Option V → Type 0
IsChange was now to from = IsTable was now to from ⊎ IsOther was now to from

-- the number stands at the key, if there is one, and all else stays
pub record Inserts {V : Type 0} (to : Option V) (number : ℕ) (old new : V → Option ℕ) : Type 0 where
  pub here : (v : V) → to ≡ Some v → new v ≡ Some number
  pub others : (v : V) → (to ≡ Some v → ⊥) → new v ≡ old v

-- nothing stands at the key, if there is one, and all else stays
pub record Removes {V : Type 0} (from : Option V) (old new : V → Option ℕ) : Type 0 where
  pub here : (v : V) → from ≡ Some v → new v ≡ None
  pub others : (v : V) → (from ≡ Some v → ⊥) → new v ≡ old v

-- the number is put at the one key, and what stands at the other taken out
pub record Edits {V : Type 0} (to from : Option V) (number : ℕ) (old new : V → Option ℕ) : Type 0 where
  pub mid : V → Option ℕ
  pub puts : Inserts to number old mid
  pub takes : Removes from mid new
