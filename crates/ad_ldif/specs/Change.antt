-- A change record as a value, without where its values lie in memory.
use Rattle.std.specs.Prelude.{ℕ, Bool, List, Option, map}
use Rattle.ad_ldif.specs.declared.change.LdifChange.{LdifChange}
use Rattle.ad_ldif.specs.declared.change.LdifControl.{LdifControl}
use Rattle.ad_ldif.specs.declared.change.LdifItem.{LdifItem}
use Rattle.ad_ldif.specs.declared.change.LdifOp.{LdifOp}
use Rattle.ad_ldif.specs.declared.change.LdifOp.TheVariants as code
use Rattle.ad_ldif.specs.Records.{Field, field_of}

-- what is done to the object: it is made with these attributes' lines; it goes; it gets this relative name, and the
-- old naming value goes or stays, below this parent, if one is named; its attributes change so
pub data Op : Type 0 where
  Adds : List Field → Op
  Deletes : Op
  Renames : List ℕ → Bool → Option (List ℕ) → Op
  Modifies : List LdifItem → Op

pub record Change : Type 0 where
  pub line : ℕ
  pub dn : List ℕ
  pub controls : List LdifControl
  pub op : Op

abbrev pub op_seen : LdifOp → Op
op_seen (code.Add lines) = Adds (map field_of lines.items)
op_seen code.Delete = Deletes
op_seen (code.Rename rdn delete_old superior) = Renames rdn delete_old superior
op_seen (code.Modify items) = Modifies items

abbrev pub change_seen : LdifChange → Change
change_seen c = record { line = c.line; dn = c.dn; controls = c.controls; op = op_seen c.kind }
