-- How code asks for what a token may change at an object.
use Rattle.std.specs.Prelude.{◌≡◌, ℕ, zero, suc, Bool, false, ◌&&◌, List, [], ◌∷◌, ◌++◌, Some, length, slice_get}
use Rattle.std.specs.Prelude.{slice_index_or}
use Rattle.ad_ids.specs.declared.token.Token.{Token}
use Rattle.ad_acl.specs.Mask.{write_dac, write_owner, access_system_security}
use Rattle.ad_schema.specs.declared.info.AttrId.{AttrId}
use Rattle.ad_schema.specs.declared.info.ClassId.{ClassId}
use Rattle.ad_schema.specs.Attributes.{attrs_of}
use Rattle.ad_schema.specs.Classes.{is_allowed}
use Rattle.ad_types.specs.TypesOf.{path_of}
use Rattle.ad_constructed.specs.Rights.{RightsValue}
use Rattle.ad_dir_model.specs.Objects.{is_live, object_at}
use Rattle.ad_dir_model.specs.Directory.{Directory}
use Rattle.ad_access_dir.specs.Sight.{is_granted}
use Rattle.ad_access_dir.specs.Allowed.{allowed_below, allowed_attrs}
use Rattle.ad_access_dir.specs.Masks.{IsMask}
use Rattle.ad_constructed_dir.specs.Changing.{may_write, may_create}

-- ---- attributes

-- of the first n attributes each whether objects of the class may have it and the token may write it
unfoldable pub writes_below : Directory → Token → ℕ → ℕ → ℕ → List Bool
writes_below dir token number class zero = []
writes_below dir token number class (suc n) =
    writes_below dir token number class n ++ (is_allowed dir.schema class n && may_write dir token number n) ∷ []

-- of all
abbrev pub writes_of : Directory → Token → ℕ → ℕ → List Bool
writes_of dir token number class = writes_below dir token number class (length (attrs_of dir.schema))

-- the masks are those of the right to write, on the paths of these attributes in their order
pub record AreWriteMasks (dir : Directory) (token : Token) (number : ℕ) (class : ClassId) (ids : List AttrId)
    (masks : List ℕ) : Type 0 where
  pub long : length masks ≡ length ids
  pub each : (i : ℕ) (id : AttrId) → slice_get ids i ≡ Some id
      → IsMask 32 (is_granted dir token number (path_of dir.schema class id)) (slice_index_or masks i 0)

-- It is said whether objects of the class, which is the object's own, may have the attribute, and where they may, its
-- mask stands at the place.
pub record IsPlaced (dir : Directory) (token : Token) (number : ℕ) (class : ClassId) (attr : ℕ) (allowed : Bool)
    (masks : List ℕ) (next : ℕ) : Type 0 where
  pub own : class.0 ≡ (object_at dir.objects number).class
  pub said : allowed ≡ is_allowed dir.schema class.0 attr
  pub are : AreWriteMasks dir token number class (allowed_attrs dir.schema class.0) masks
  pub place : next ≡ length (allowed_below dir.schema class.0 attr)

-- ---- rights

-- What a token may do, where it may write the attributes that have a flag. At an object that isn't live it may do
-- nothing.
abbrev pub rights_by : Directory → Token → ℕ → List Bool → RightsValue
rights_by dir token number writes = record {
  may_write = λ place. slice_index_or writes place false;
  may_create = λ place. is_live dir.objects number && may_create dir token number place;
  may_write_owner = is_live dir.objects number && is_granted dir token number [] write_owner;
  may_write_list = is_live dir.objects number && is_granted dir token number [] write_dac;
  may_write_system_list = is_live dir.objects number && is_granted dir token number [] access_system_security;
}
