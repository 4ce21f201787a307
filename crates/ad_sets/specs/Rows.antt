-- By which set and sign an object is told whose own rights may differ from those of the others.
use Rattle.std.specs.Prelude.{◌≡◌, ℕ, Bool, true, false, not, ◌&&◌, ◌==◌, if◌then◌else◌, Option, None, Some, List, []}
use Rattle.std.specs.Prelude.{◌∷◌, length, set, slice_get}
use Rattle.std.specs.List.{list_any, All, AllZip}
use Rattle.ad_sets.specs.declared.told.Sign.{Sign}
use Rattle.ad_sets.specs.declared.told.Sign.TheVariants.{Same, With, Without}
use Rattle.ad_sets.specs.declared.row.Change.{Change}
use Rattle.ad_sets.specs.declared.row.Row.{Row}
use Rattle.ad_sets.specs.Told.{RowValue, stands_in, is_own, same_set}
use Rattle.ad_sets.specs.Sets.{set_at}

-- ---- the rule

-- the base, but for the object itself, of which it says what the whole says
abbrev pub with_own : Option ℕ → List Bool → List Bool → List Bool
with_own None base whole = base
with_own (Some own) base whole = set base own (stands_in whole own)

-- whether the base tells the whole, with a sign for the object itself
abbrev pub is_told_by : Option ℕ → List Bool → List Bool → Bool
is_told_by own base whole = same_set (with_own own base whole) whole

abbrev pub sign_of : Bool → Bool → Sign
sign_of true true = Same
sign_of false false = Same
sign_of false true = With
sign_of true false = Without

abbrev pub own_sign : Option ℕ → List Bool → List Bool → Sign
own_sign None base whole = Same
own_sign (Some own) base whole = sign_of (stands_in base own) (stands_in whole own)

-- An object whose set would be the base if it had no identifier, and is the whole: it is told by the base where that
-- tells the whole, else by the whole.
unfoldable pub told_set : Option ℕ → List Bool → List Bool → List Bool
told_set own base whole = if is_told_by own base whole then base else whole

unfoldable pub told_sign : Option ℕ → List Bool → List Bool → Sign
told_sign own base whole = if is_told_by own base whole then own_sign own base whole else Same

abbrev pub row_of : ℕ → Option ℕ → List Bool → List Bool → RowValue
row_of object own base whole =
    record { object = object; own = own; set = told_set own base whole; sign = told_sign own base whole }

-- ---- how it is kept

-- the base with these changes, one after the other
unfoldable pub put_all : List Bool → List Change → List Bool
put_all base [] = base
put_all base (c ∷ changes) = put_all (set base c.place c.value) changes

abbrev pub differ : Bool → Bool → Bool
differ true b = not b
differ false b = b

-- a change of another place than the object's own, which is another than what the base has
abbrev pub is_elsewhere : List Bool → Option ℕ → Change → Bool
is_elsewhere base own c = not (is_own own c.place) && differ (stands_in base c.place) c.value

-- one of the changes is of this place
abbrev pub is_changed : List Change → ℕ → Bool
is_changed changes member = list_any (λ (c : Change). c.place == member) changes

-- The whole has at the places of the changes what these say, and elsewhere what the base has.
pub record IsChanged (base : List Bool) (changes : List Change) (whole : List Bool) : Type 0 where
  pub size : length whole ≡ length base
  pub there : All (λ (c : Change). stands_in whole c.place ≡ c.value) changes
  pub elsewhere : (member : ℕ) → is_changed changes member ≡ false → stands_in whole member ≡ stands_in base member

-- a row that is kept tells what the row tells
pub record IsRow (sets : List (List Bool)) (row : Row) (value : RowValue) : Type 0 where
  pub object : row.object ≡ value.object
  pub set_is : slice_get sets row.place ≡ Some value.set
  pub sign : row.sign ≡ value.sign

abbrev pub AreRows : List (List Bool) → List Row → List RowValue → Type 0
AreRows sets rows values = AllZip (IsRow sets) rows values

-- what a row that is kept tells, where nothing is said of the object's own place
abbrev pub value_of : List (List Bool) → Row → RowValue
value_of sets row =
    record { object = row.object; own = None; set = set_at sets row.place; sign = row.sign }
