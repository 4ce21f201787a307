-- What a directory keeps in its fields, and what they stand for.
use Rattle.std.specs.Prelude.{◌≡◌, ℕ, Bool, if◌then◌else◌, Option, None, List, [], ◌∷◌, true, filter_map}
use Rattle.std.specs.List.{AllByRecursion}
use Rattle.prop_queue.specs.declared.pending.Pending.{Pending}
use Rattle.ad_schema.specs.declared.line.SchemaRecord.{SchemaRecord}
use Rattle.ad_dir_table.specs.Entry.{Entry, objects_in, HaveTheirSids}
use Rattle.ad_dir_table.specs.declared.index.Index.{Index}
use Rattle.ad_dir_table.specs.Indexed.{IsIndexed}
use Rattle.ad_dir_links.specs.Counted.{AreCounted}
use Rattle.ad_dir.specs.Weighing.{Weighs}
use Rattle.ad_dir_objects.specs.declared.edit.Meta.{Meta as MetaIn}
use Rattle.ad_dir_objects.specs.Seen.{meta_seen}
use Rattle.ad_dir.specs.Standing.{AreStanding}
use Rattle.ad_dir_model.specs.Object.{Object, Stored, linked}
use Rattle.ad_dir_model.specs.Objects.{is_live, object_at}
use Rattle.ad_dir_model.specs.Tree.{root}
use Rattle.ad_dir_model.specs.Names.{rdn_of, same_rdn, found_below}
use Rattle.ad_dn.specs.declared.rdn.Rdn.{Rdn}
use Rattle.ad_dir_model.specs.Directory.{Directory}

abbrev pub dir_seen : List SchemaRecord → List Entry → List Pending → MetaIn → Directory
dir_seen schema entries pending meta = record {
  schema = schema;
  objects = objects_in entries;
  pending = pending;
  meta
      = meta_seen meta;
}

pub record IsStoredDir (schema : List SchemaRecord) (objects : List Entry) (index : Index) (flags : List Bool)
    (links : List (ℕ × ℕ)) (weight : Option ℕ) : Type 0 where
  pub sids : HaveTheirSids schema objects
  pub standing : AreStanding schema (objects_in objects)
  pub indexed : IsIndexed schema index (objects_in objects)
  pub linked : AreCounted flags links (objects_in objects)
  pub weighs : Weighs schema weight (objects_in objects)

-- ---- names and values on the way

-- the links among the values name live objects
abbrev pub AreLive : List Object → List Stored → Type 0
AreLive objects stored = AllByRecursion (λ number. is_live objects number ≡ true) (filter_map linked stored)

-- the object of a name from its end, the first part being the root's own
unfoldable pub found_from_root : Directory → List Rdn → Option ℕ
found_from_root dir [] = None
found_from_root dir (top ∷ parts) = if same_rdn (rdn_of dir.schema (object_at dir.objects root)) top
    then found_below dir root parts else None
