-- Two directories that differ, and how little of it a token can tell.
use Rattle.std.specs.Prelude.{◌≡◌, ◌≢◌, ℕ, true, false, Some, List, [], slice_get}
use Rattle.ad_ids.specs.declared.guid.Guid.{Guid}
use Rattle.ad_ids.specs.declared.token.Token.{Token}
use Rattle.ad_schema.specs.declared.info.AttrInfo.{AttrInfo}
use Rattle.ad_schema.specs.Attributes.{attrs_of}
use Rattle.ad_dir_model.specs.Object.{Object, names, no_sd, stored_in}
use Rattle.ad_dir_model.specs.Objects.{is_live, object_at, parent_at}
use Rattle.ad_dir_model.specs.Identity.{self_sid}
use Rattle.ad_dir_model.specs.Settings.{list_object_mode}
use Rattle.ad_dir_model.specs.Directory.{Directory}
use Rattle.ad_access_dir.specs.Sight.{is_granted, is_visible}
use Rattle.ad_entries.specs.Seen.{is_readable, parts_read}

-- One schema, one name above the root, and one list object mode: dSHeuristics may differ otherwise, and so may
-- counters and what is pending.
pub record HasSameFrame (dir other : Directory) : Type 0 where
  pub schema : other.schema ≡ dir.schema
  pub suffix : other.meta.suffix ≡ dir.meta.suffix
  pub mode : list_object_mode other ≡ list_object_mode dir

-- ---- an object

-- if it is there, the token doesn't see it
abbrev pub IsHidden : Directory → Token → ℕ → Type 0
IsHidden dir token number = is_live dir.objects number ≡ true → is_visible dir token number ≡ false

-- no other object stands below it, and none names it
pub record StandsAlone (dir : Directory) (number : ℕ) : Type 0 where
  pub childless : (other : ℕ) → other ≢ number → parent_at dir.objects other ≢ number
  pub unnamed : (other attr : ℕ) → other ≢ number → names number (stored_in (object_at dir.objects other).values attr)
      ≡ false

-- ---- values

-- the object but for its values
abbrev pub without_values : Object → Object
without_values object = record object { values = [] }

-- The object has one identifier in both; and where it is seen, one list of stored values of each attribute that may
-- be read.
pub record IsReadAlike (dir other : Directory) (token : Token) (number : ℕ) : Type 0 where
  pub identifier : self_sid other number ≡ self_sid dir number
  pub values : is_visible dir token number ≡ true → (attr : ℕ) (info : AttrInfo) → slice_get (attrs_of dir.schema)
      attr ≡ Some info
      → is_readable dir token number attr info ≡ true
      → stored_in (object_at other.objects number).values attr ≡ stored_in (object_at dir.objects number).values attr

-- ---- descriptors

-- the object but for its descriptor
abbrev pub without_sd : Object → Object
without_sd object = record object { sd = no_sd }

-- Each right is granted on each path in both or in neither; and where the object is seen, the parts of the descriptor
-- that may be read are the same.
pub record IsGrantedAlike (dir other : Directory) (token : Token) (number : ℕ) : Type 0 where
  pub rights : (path : List Guid) (bit : ℕ) → is_granted other token number path bit ≡ is_granted dir token number
      path bit
  pub parts : is_visible dir token number ≡ true → parts_read other token number ≡ parts_read dir token number
