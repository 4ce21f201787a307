-- What a class allows: the attributes of its objects, the rights on them, and the classes of objects below them.
use Rattle.std.specs.Prelude.{ℕ, zero, suc, Bool, not, ◌==◌, ◌&&◌, if◌then◌else◌, List, [], ◌∷◌, ◌++◌, length}
use Rattle.std.specs.List.{list_any}
use Rattle.ad_ids.specs.declared.guid.Guid.{Guid}
use Rattle.ad_schema.specs.declared.line.SchemaRecord.{SchemaRecord}
use Rattle.ad_schema.specs.declared.info.AttrId.{AttrId}
use Rattle.ad_schema.specs.declared.info.ClassInfo.{ClassInfo}
use Rattle.ad_schema.specs.Attributes.{attrs_of}
use Rattle.ad_schema.specs.Classes.{is_allowed, is_under, is_a}

-- ---- attributes

-- those of the first n attributes that objects of the class may have
unfoldable pub allowed_below : List SchemaRecord → ℕ → ℕ → List AttrId
allowed_below schema class zero = []
allowed_below schema class (suc n) = allowed_below schema class n
    ++ (if is_allowed schema class n then record { 0 = n } ∷ [] else [])

-- all of them, in schema order
abbrev pub allowed_attrs : List SchemaRecord → ℕ → List AttrId
allowed_attrs schema class = allowed_below schema class (length (attrs_of schema))

-- ---- rights

-- the right applies to the class or one above it
abbrev pub applies : List SchemaRecord → ℕ → List Guid → Bool
applies schema class guids = list_any (is_a schema class) guids

-- ---- children

-- a structural class, whose objects may stand below: it is neither abstract (2) nor auxiliary (3)
abbrev pub is_child_class : List SchemaRecord → ℕ → ℕ → ClassInfo → Bool
is_child_class schema class place info = not (info.category == 2) && not (info.category == 3)
    && is_under schema place class
