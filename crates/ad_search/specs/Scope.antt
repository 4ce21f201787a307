-- Which objects a search is about, by their names (RFC 4511 4.5.1.2).
use Rattle.std.specs.Prelude.{ℕ, Bool, true, false, ◌&&◌, ◌||◌, ◌==◌, if◌then◌else◌, List, [], ◌∷◌, drop}
use Rattle.std.specs.List.{list_any}
use Rattle.ad_dn.specs.declared.rdn.Rdn.{Rdn}
use Rattle.ad_dn.specs.Text.{rdns_text}
use Rattle.ad_ldap.specs.Choices.{base_object, single_level}
use Rattle.ad_dir_model.specs.Names.{same_rdn}
use Rattle.ad_entries.specs.Seen.{Seen}

-- the same name: part by part, types without regard to case and values after folding
unfoldable pub same_rdns : List Rdn → List Rdn → Bool
same_rdns [] [] = true
same_rdns [] (b ∷ bs) = false
same_rdns (a ∷ as') [] = false
same_rdns (a ∷ as') (b ∷ bs) = same_rdn a b && same_rdns as' bs

-- the name ends with the other: it is the other, or that of an object below it
unfoldable pub is_at_or_below : List Rdn → List Rdn → Bool
is_at_or_below base [] = same_rdns [] base
is_at_or_below base (rdn ∷ rdns) = same_rdns (rdn ∷ rdns) base || is_at_or_below base rdns

-- the name is that of an object right below the other
abbrev pub is_right_below : List Rdn → List Rdn → Bool
is_right_below base [] = false
is_right_below base (rdn ∷ rdns) = same_rdns rdns base

-- the base alone, the objects right below it, or the base and all below it
unfoldable pub in_scope : ℕ → List Rdn → List Rdn → Bool
in_scope scope base name =
    if scope == base_object then same_rdns name base
    else (if scope == single_level then is_right_below base name
    else is_at_or_below base name)

-- ---- among the objects that are seen

abbrev pub is_named : List Rdn → Seen → Bool
is_named rdns seen = same_rdns seen.name rdns

-- some object that is seen has the name
unfoldable pub is_there : List Seen → List Rdn → Bool
is_there view rdns = list_any (is_named rdns) view

-- the text of the nearest of a name and the names above it that an object has which is seen, as it was sent; nothing
-- where there is none
unfoldable pub nearest : List Seen → List Rdn → List ℕ
nearest view [] = []
nearest view (rdn ∷ rdns) = if is_there view (rdn ∷ rdns) then rdns_text (rdn ∷ rdns) else nearest view rdns

-- what is told of a name that no object has that is seen: the nearest of those above it
abbrev pub matched : List Seen → List Rdn → List ℕ
matched view rdns = nearest view (drop 1 rdns)
