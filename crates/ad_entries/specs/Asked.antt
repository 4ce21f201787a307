-- What a search asks for, as code keeps it.
use Rattle.std.specs.Prelude.{◌≡◌, ℕ, Bool, true, false, ◌||◌, codes, length, slice_index_or, IfSome, List}
use Rattle.ad_schema.specs.declared.line.SchemaRecord.{SchemaRecord}
use Rattle.ad_dir_model.specs.Attributes.{is_named}
use Rattle.ad_entries.specs.declared.asking.RequestedExtras.{RequestedExtras}
use Rattle.ad_entries.specs.declared.asking.Asked.{Asked}
use Rattle.ad_entries.specs.Entry.{is_asked, is_sent, is_descriptor_asked, attributes_name, children_name, parts_name}
use Rattle.ad_entries.specs.Places.{is_asked_at}
use Rattle.ad_entries.specs.Rising.{is_in}

-- ---- by name

-- the names ask for each attribute, whatever its name is
abbrev pub AsksAll : List (List ℕ) → Type 0
AsksAll sent = (name : List ℕ) → is_asked sent name ≡ true

-- a flag for each attribute, set where it is asked for
abbrev pub AreFlags : List SchemaRecord → List (List ℕ) → List Bool → Type 0
AreFlags schema sent flags = (attr : ℕ) → slice_index_or flags attr false ≡ is_asked_at schema sent attr

-- no other attribute is flagged
abbrev pub LeavesUnflagged : List Bool → List ℕ → Type 0
LeavesUnflagged flags named = (attr : ℕ) → is_in attr named ≡ false → slice_index_or flags attr false ≡ false

-- Where it is set now, it was before, or the test holds; and where each that is flagged was named, each is.
pub record Flags (test : ℕ → Bool) (old new : List Bool) (before after : List ℕ) : Type 0 where
  pub len : length new ≡ length old
  pub each : (attr : ℕ) → slice_index_or new attr false ≡ (slice_index_or old attr false || test attr)
  pub named : LeavesUnflagged old before → LeavesUnflagged new after

-- no other attribute is asked for
abbrev pub LeavesUnasked : List SchemaRecord → List (List ℕ) → List ℕ → Type 0
LeavesUnasked schema sent few = (attr : ℕ) → is_in attr few ≡ false → is_asked_at schema sent attr ≡ false

-- what is asked for by its name alone
pub record AreApart (sent : List (List ℕ)) (apart : RequestedExtras) : Type 0 where
  pub descriptor : apart.descriptor ≡ is_descriptor_asked sent
  pub attributes : apart.attributes ≡ is_sent sent attributes_name
  pub children : apart.children ≡ is_sent sent children_name
  pub parts : apart.parts ≡ is_sent sent parts_name

-- ---- without storing it

-- What isn't there now wasn't before, and isn't the attribute of the name.
abbrev pub PushesNamed : List SchemaRecord → List ℕ → List ℕ → List ℕ → Type 0
PushesNamed schema name old new = (attr : ℕ) → is_in attr new ≡ false → (is_in attr old ≡ false)
    × (is_named schema name attr ≡ false)

-- The attribute is none of those that objects of each class show without storing them.
pub record IsUncomputed (schema : List SchemaRecord) (attr : ℕ) : Type 0 where
  pub no_class : is_named schema (codes "objectClass") attr ≡ false
  pub no_dn : is_named schema (codes "distinguishedName") attr ≡ false
  pub no_name : is_named schema (codes "name") attr ≡ false

-- no other attribute is one of them
abbrev pub LeavesUncomputed : List SchemaRecord → List ℕ → Type 0
LeavesUncomputed schema places = (attr : ℕ) → is_in attr places ≡ false → IsUncomputed schema attr

-- ---- all of it

-- what is asked for, and what is computed
pub record AreAsked (schema : List SchemaRecord) (sent : List (List ℕ)) (asked : Asked) : Type 0 where
  pub flags : AreFlags schema sent asked.flags.items
  pub named : IfSome asked.named (λ places. LeavesUnasked schema sent places.items)
  pub computed : LeavesUncomputed schema asked.computed.items
  pub apart : AreApart sent asked.apart
