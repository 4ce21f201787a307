-- The bytes of a security identifier.
use Rattle.std.specs.Prelude.{◌≡◌, ℕ, ◌^◌, ◌<◌, ◌≤◌, List, ◌∷◌, ◌++◌, length}
use Rattle.std.specs.List.{flat_map, AllByRecursion}
use Rattle.ad_bytes.specs.Numbers.{be_bytes, le_bytes}
use Rattle.ad_ids.specs.SidValue.{SidValue}

-- 1 to 15 sub-authorities of 32 bits below an authority of 48
pub record IsSid (s : SidValue) : Type 0 where
  pub authority : s.authority < 2 ^ 48
  pub at_least_one : 1 ≤ length s.sub_authorities
  pub at_most_15 : length s.sub_authorities ≤ 15
  pub sub_authorities : AllByRecursion (λ n. n < 2 ^ 32) s.sub_authorities

-- revision 1, the number of sub-authorities, the authority with its most significant byte first, and the
-- sub-authorities, each with its least significant byte first
unfoldable pub sid_bytes : SidValue → List ℕ
sid_bytes s = 1 ∷ length s.sub_authorities ∷ be_bytes 6 s.authority ++ flat_map (le_bytes 4) s.sub_authorities

-- an identifier has the one encoding
abbrev pub SpellsSid : SidValue → List ℕ → Type 0
SpellsSid s text = IsSid s × (text ≡ sid_bytes s)
