-- What names are compared by.
use Rattle.std.specs.Prelude.{ℕ, nat_lt, Bool, not, ◌==◌, ◌&&◌, ◌||◌, if◌then◌else◌, List, [], ◌∷◌, ◌++◌}
use Rattle.std.specs.List.{flat_map}
use Rattle.ad_dn.specs.declared.rdn.Rdn.{Rdn}
use Rattle.ad_dn.specs.declared.rdn.Dn.{Dn}
use Rattle.ad_dn.specs.Fold.{folded}

-- a byte that stands in a key as it is but for its case: ASCII, and neither a comma nor \
abbrev pub is_bare : ℕ → Bool
is_bare b = nat_lt b 128 && not (b == 44) && not (b == 92)

-- a byte, after \ (92) where it is a comma (44) or \
abbrev pub escaped : ℕ → List ℕ
escaped b = if (b == 44) || (b == 92) then 92 ∷ b ∷ [] else b ∷ []

-- the bytes of a value, and the comma that ends it
unfoldable pub closed : List ℕ → List ℕ
closed [] = 44 ∷ []
closed (b ∷ bytes) = escaped b ++ closed bytes

-- the type, = (61) and the value after full case folding
abbrev pub rdn_key : Rdn → List ℕ
rdn_key rdn = rdn.kind ++ 61 ∷ closed (folded rdn.value)

abbrev pub rdns_key : List Rdn → List ℕ
rdns_key rdns = flat_map rdn_key rdns

abbrev pub name_key : Dn → List ℕ
name_key dn = rdns_key dn.rdns
