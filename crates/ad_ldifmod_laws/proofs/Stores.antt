-- In a directory for which a store stands the entries have their ranges: the row of each object encodes its
-- descriptor.
use Rattle.std.proofs.Common.{ℕ, List, Option, Some, None}
use Rattle.std.specs.Prelude.{unwrap_or}
use Rattle.std.specs.List.{AllByRecursion}
use Rattle.site_io.specs.Disk.{Images}
use Rattle.ad_acl.specs.Writing.{IsEntry}
use Rattle.ad_dir_model.specs.Object.{Object, no_object}
use Rattle.ad_dir_model.specs.Objects.{object_of, object_at}
use Rattle.ad_dir_model.specs.Directory.{Directory}
use Rattle.ad_rows_write.specs.Body.{SpellsObject}
use Rattle.ad_rows_write.specs.Rows.{Shows, IsStoreOf}
use Rattle.ad_ldifmod_laws.specs.Given.{HasRanges}

entries_are : (o : Option Object) (stands : Option (List ℕ)) → Shows SpellsObject o stands
    → AllByRecursion IsEntry (unwrap_or o no_object).sd.dacl.entries
entries_are None stands shows = tt
entries_are (Some o) stands shows = shows.2.follows.follows.follows.follows.0.dacl.each

pub store_ranges : (held : Images) (dir : Directory) → IsStoreOf held dir → HasRanges dir
unfolding object_at
store_ranges held dir store number = entries_are (object_of dir.objects number) (store.table 1 number)
    (store.rows.objects number)
