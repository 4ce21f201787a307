-- Which attributes an entry has, by their places in the schema.
use Rattle.std.specs.Prelude.{◌≡◌, ℕ, Bool, true, false, ◌&&◌, if◌then◌else◌, Option, Some, None, slice_get}
use Rattle.std.specs.Prelude.{option_to_list, List, [], ◌∷◌, ◌++◌, map}
use Rattle.std.specs.List.Sorted.{IsStrictlyIncreasing}
use Rattle.ad_ids.specs.declared.token.Token.{Token}
use Rattle.ad_schema.specs.declared.info.AttrInfo.{AttrInfo}
use Rattle.ad_schema.specs.declared.line.SchemaRecord.{SchemaRecord}
use Rattle.ad_schema.specs.Attributes.{attrs_of}
use Rattle.ad_ldap.specs.MessageValue.{SearchValue}
use Rattle.ad_dir_model.specs.Object.{Held}
use Rattle.ad_dir_model.specs.Shown.{shown}
use Rattle.ad_dir_model.specs.Directory.{Directory}
use Rattle.ad_entries.specs.Seen.{is_readable}
use Rattle.ad_entries.specs.Entry.{Given, is_asked}
use Rattle.ad_entries.specs.Given.{given_if}
use Rattle.ad_entries.specs.Rising.{is_in}

-- ---- the attribute at a place, where there is one

-- it is asked for
abbrev pub is_asked_of : List (List ℕ) → Option AttrInfo → Bool
is_asked_of sent None = false
is_asked_of sent (Some info) = is_asked sent info.name

unfoldable pub is_asked_at : List SchemaRecord → List (List ℕ) → ℕ → Bool
is_asked_at schema sent place = is_asked_of sent (slice_get (attrs_of schema) place)

-- it may be read
abbrev pub is_readable_of : Directory → Token → ℕ → ℕ → Option AttrInfo → Bool
is_readable_of dir token number place None = false
is_readable_of dir token number place (Some info) = is_readable dir token number place info

unfoldable pub is_readable_at : Directory → Token → ℕ → ℕ → Bool
is_readable_at dir token number place = is_readable_of dir token number place (slice_get (attrs_of dir.schema) place)

-- both
abbrev pub is_given_at : Directory → Token → ℕ → SearchValue → ℕ → Bool
is_given_at dir token number search place = is_asked_at dir.schema search.attrs place && is_readable_at dir token number
    place

abbrev pub place_if : Bool → ℕ → List ℕ
place_if so place = if so then place ∷ [] else []

-- what an entry has of it, if it is given
abbrev pub shown_of : Directory → ℕ → Bool → ℕ → Option AttrInfo → Option Given
shown_of dir number types_only place None = None
shown_of dir number types_only place (Some info) = given_if types_only info.name (shown dir number place)

unfoldable pub shown_at : Directory → ℕ → Bool → ℕ → Option Given
shown_at dir number types_only place = shown_of dir number types_only place (slice_get (attrs_of dir.schema) place)

unfoldable pub shown_at_each : Directory → ℕ → Bool → List ℕ → List Given
shown_at_each dir number types_only [] = []
shown_at_each dir number types_only (place ∷ places) = option_to_list (shown_at dir number types_only place)
    ++ shown_at_each dir number types_only places

-- ---- the places of an entry

-- The places rise, each is given, and of what is given at no other one the object shows anything.
pub record HasPlaces (dir : Directory) (token : Token) (number : ℕ) (search : SearchValue) (places : List ℕ) : Type 0
  where
    pub rise : IsStrictlyIncreasing places
    pub given : (place : ℕ) → is_in place places ≡ true → is_given_at dir token number search place ≡ true
    pub others : (place : ℕ) → is_in place places ≡ false → is_given_at dir token number search place ≡ true
        → shown dir number place ≡ []

-- no value of the attribute is held
abbrev pub HoldsNone : ℕ → List Held → Type 0
HoldsNone attr values = is_in attr (map (λ (held : Held). held.attr) values) ≡ false
