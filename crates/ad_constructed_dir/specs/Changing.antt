-- What a token may change at an object, as the values of three attributes that are made where they are asked for.
use Rattle.std.specs.Prelude.{ℕ, Bool, false, List, [], ◌∷◌, if◌then◌else◌, slice_get, decimal}
use Rattle.std.specs.Option.{option_map_or}
use Rattle.ad_ids.specs.declared.token.Token.{Token}
use Rattle.ad_acl.specs.Mask.{create_child, write_property, control_access, write_dac, write_owner}
use Rattle.ad_acl.specs.Mask.{access_system_security}
use Rattle.ad_schema.specs.declared.info.AttrInfo.{AttrInfo}
use Rattle.ad_schema.specs.declared.info.ClassInfo.{ClassInfo}
use Rattle.ad_schema.specs.Attributes.{attrs_of}
use Rattle.ad_schema.specs.Classes.{classes_of}
use Rattle.ad_types.specs.TypesOf.{path_of}
use Rattle.ad_constructed.specs.Rights.{RightsValue, parts_of}
use Rattle.ad_constructed.specs.Listed.{attributes, children}
use Rattle.ad_dir_model.specs.Objects.{object_at}
use Rattle.ad_dir_model.specs.Directory.{Directory}
use Rattle.ad_access_dir.specs.Sight.{is_granted}
use Rattle.ad_access_dir.specs.Passwords.{is_password, force_change}

-- ---- rights

-- An attribute is written with the right to write it on its path, and a password is set by who may force it to
-- change.
abbrev pub is_writer : Directory → Token → ℕ → ℕ → AttrInfo → Bool
is_writer dir token number place info =
    if is_password info.name then is_granted dir token number (force_change ∷ []) control_access
    else is_granted dir token number (path_of dir.schema (record { 0 = (object_at dir.objects number).class })
    (record { 0 = place })) write_property

unfoldable pub may_write : Directory → Token → ℕ → ℕ → Bool
may_write dir token number place = option_map_or (is_writer dir token number place)
    (slice_get (attrs_of dir.schema) place) false

-- an object below it is created on the path of its class
unfoldable pub may_create : Directory → Token → ℕ → ℕ → Bool
may_create dir token number place =
    option_map_or (λ (info : ClassInfo). is_granted dir token number (info.guid ∷ []) create_child)
    (slice_get (classes_of dir.schema) place) false

-- the parts of the descriptor are written on the object as a whole
abbrev pub rights_at : Directory → Token → ℕ → RightsValue
rights_at dir token number = record {
  may_write = may_write dir token number;
  may_create = may_create dir token number;
  may_write_owner = is_granted dir token number [] write_owner;
  may_write_list = is_granted dir token number [] write_dac;
  may_write_system_list = is_granted dir token number [] access_system_security;
}

-- ---- values

-- The names of the attributes that it may write, those of the classes of which it may create objects below this
-- one, and the number of the parts of the descriptor that it may write.
pub record Changing : Type 0 where
  pub attributes : List (List ℕ)
  pub children : List (List ℕ)
  pub parts : List (List ℕ)

unfoldable pub changing_of : Directory → Token → ℕ → Changing
changing_of dir token number = record {
  attributes = attributes dir.schema (object_at dir.objects number).class (rights_at dir token number);
  children = children dir.schema (object_at dir.objects number).class (rights_at dir token number);
  parts = decimal (parts_of (rights_at dir token number)) ∷ [];
}
