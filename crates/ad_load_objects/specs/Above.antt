-- Where a key goes on after its first part. Only for private contracts, invariants and proofs.
use Rattle.std.specs.Prelude.{ℕ, Bool, not, ◌==◌, ◌&&◌, if◌then◌else◌, List, [], ◌∷◌}

-- a comma (44) that has no mark ends a part
abbrev pub is_end : Bool → ℕ → Bool
is_end marked b = not marked && (b == 44)

-- \ (92) marks the byte after it
abbrev pub is_mark : Bool → ℕ → Bool
is_mark marked b = not marked && (b == 92)

-- what stands after the first part
unfoldable pub behind : Bool → List ℕ → List ℕ
behind marked [] = []
behind marked (b ∷ bytes) = if is_end marked b then bytes else behind (is_mark marked b) bytes
