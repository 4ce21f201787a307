-- The indexes of a directory's objects, and how an edit changes all of them.
use Rattle.std.specs.Prelude.{◌≡◌, ℕ, ◌<◌, Option, Some, List}
use Rattle.std.specs.Option.{option_map, option_and_then}
use Rattle.std.specs.Str.{IsUtf8}
use Rattle.indexmap.specs.IndexMap.{spare}
use Rattle.ad_ids.specs.SidValue.{SidValue}
use Rattle.ad_schema.specs.declared.line.SchemaRecord.{SchemaRecord}
use Rattle.ad_dir_model.specs.Object.{Object}
use Rattle.ad_dir_model.specs.Objects.{object_of, children}
use Rattle.ad_dir_model.specs.Identity.{sid_in}
use Rattle.ad_dir_model.specs.Soundness.{HasOwnName, HasOwnSid}
use Rattle.ad_dir_table.specs.declared.change.Changes.{Changes}
use Rattle.ad_dir_table.specs.declared.index.Index.{Index}
use Rattle.ad_dir_table.specs.NameKeys.{key_name, name_at}
use Rattle.ad_dir_table.specs.Exact.{IsExact, name_of, sid_at}
use Rattle.ad_dir_table.specs.KeyChanges.{IsChange, Removes, Edits}
use Rattle.ad_dir_table.specs.Lists.{listed, HasPlace, ListSame, Drops, Moves}

-- naming values are UTF-8
abbrev pub AreNamed : List Object → Type 0
AreNamed objects = (number : ℕ) (o : Object) → object_of objects number ≡ Some o → IsUtf8 o.name

pub record IsIndexed (schema : List SchemaRecord) (index : Index) (objects : List Object) : Type 0 where
  pub names : IsExact name_of (name_at index.names.entries) objects
  pub sids : IsExact (sid_in schema) (sid_at index.sids.entries) objects
  pub children : ListSame (children objects) (listed index.children.entries)

-- no other object has the keys of this one
pub record HasOwnKeys (schema : List SchemaRecord) (objects : List Object) (o : Object) : Type 0 where
  pub name : HasOwnName objects o
  pub sid : HasOwnSid schema objects o

-- ---- a put

-- the key of the object that has a number, if there is one
abbrev pub was : {V : Type 0} → (Object → Option V) → List Object → ℕ → Option V
was key objects number = option_and_then key (object_of objects number)

abbrev pub parent_of : Object → Option ℕ
parent_of o = Some o.parent

-- how the keys of an object's number change where it is put
pub record AreChanges (schema : List SchemaRecord) (objects : List Object) (o : Object) (changes : Changes) : Type 0
  where
    pub names : IsChange (was name_of objects o.number) (name_of o) (option_map key_name changes.names.to)
        (option_map key_name changes.names.from)
    pub sids : IsChange (was (sid_in schema) objects o.number) (sid_in schema o) changes.sids.to changes.sids.from
    pub parents : IsChange (was parent_of objects o.number) (parent_of o) changes.parents.to changes.parents.from

-- room for one name, one identifier and one child of the parent, if there is one
pub record HasRoom (parent : Option ℕ) (index : Index) : Type 0 where
  pub names : 0 < spare index.names
  pub sids : 0 < spare index.sids
  pub place : HasPlace parent index.children.entries

-- what stands in the indexes is the same
pub record ShowSame (old new : Index) : Type 0 where
  pub names : new.names.entries ≡ old.names.entries
  pub sids : new.sids.entries ≡ old.sids.entries
  pub children : ListSame (listed old.children.entries) (listed new.children.entries)

pub record AreEdited (changes : Changes) (number : ℕ) (old new : Index) : Type 0 where
  pub names : Edits (option_map key_name changes.names.to) (option_map key_name changes.names.from) number
      (name_at old.names.entries) (name_at new.names.entries)
  pub sids : Edits changes.sids.to changes.sids.from number (sid_at old.sids.entries) (sid_at new.sids.entries)
  pub children : Moves changes.parents.to changes.parents.from number (listed old.children.entries)
      (listed new.children.entries)

-- ---- a removal

-- the number of an object stands at none of its keys any more
pub record AreRemoved (o : Object) (sid : Option SidValue) (old new : Index) : Type 0 where
  pub names : Removes (name_of o) (name_at old.names.entries) (name_at new.names.entries)
  pub sids : Removes sid (sid_at old.sids.entries) (sid_at new.sids.entries)
  pub children : Drops (Some o.parent) o.number (listed old.children.entries) (listed new.children.entries)
