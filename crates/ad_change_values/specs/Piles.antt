-- Stored values of which some were taken away since they came.
use Rattle.std.specs.Prelude.{◌≡◌, ℕ, suc, ◌≤◌, Bool, false, not, nat_lt, if◌then◌else◌, Option, Some, None, is_some}
use Rattle.std.specs.Prelude.{List, [], ◌∷◌, length, map}
use Rattle.std.specs.List.{list_any}
use Rattle.std.specs.BTreeMap.{BTreeMap, get}
use Rattle.ad_dir_objects.specs.declared.object.Stored.{Stored as StoredIn}
use Rattle.ad_change_values.specs.declared.keys.StoredKey.{StoredKey}
use Rattle.ad_dir_objects.specs.Seen.{stored_seen}
use Rattle.ad_change_values.specs.StoredKeys.{key_of, stored_order, same_by}
use Rattle.ad_change_values.specs.Values.{is_among}

-- the place isn't before this one
abbrev pub is_since : ℕ → Option ℕ → Bool
is_since place None = false
is_since place (Some first) = not (nat_lt place first)

-- From a place on, those values that are there: a key names the place from which on its values are.
unfoldable pub alive : (StoredKey → Option ℕ) → ℕ → List StoredIn → List StoredIn
alive since place [] = []
alive since place (one ∷ others) = if is_since place (since (key_of one)) then one ∷ alive since (suc place) others
    else alive since (suc place) others

-- one of the values has the key
abbrev pub has_key : List StoredIn → StoredKey → Bool
has_key values key = list_any (λ one. same_by key (key_of one)) values

-- a key has a place exactly where a value of it is there, and none after the last
pub record IsIndex (since : StoredKey → Option ℕ) (all : List StoredIn) : Type 0 where
  pub told : (key : StoredKey) → is_some (since key) ≡ has_key (alive since 0 all) key
  pub within : (key : StoredKey) (place : ℕ) → since key ≡ Some place → place ≤ length all

abbrev pub Places : Type 0
Places = BTreeMap StoredKey ℕ

abbrev pub since_in : Places → StoredKey → Option ℕ
since_in places = get stored_order places

-- the values that are there: without an index all of them
abbrev pub pile_in : List StoredIn → Option Places → List StoredIn
pile_in all None = all
pile_in all (Some places) = alive (since_in places) 0 all

abbrev pub IsPile : List StoredIn → Option Places → Type 0
IsPile all None = Unit {0}
IsPile all (Some places) = IsIndex (since_in places) all

-- none of these is the value
abbrev pub not_among : List StoredIn → StoredIn → Bool
not_among gone one = not (is_among (map stored_seen gone) (stored_seen one))
