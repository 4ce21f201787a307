-- The directory of an LDIF text, or its first fault.
use Rattle.std.specs.Prelude.{ℕ, List, Result, Ok}
use Rattle.ad_bytes.specs.Reading.{◌>>=◌}
use Rattle.ad_dir_model.specs.Directory.{Directory}
use Rattle.ad_dir_model.specs.Loading.{recomputed}
use Rattle.ad_load_records.specs.declared.fault.LoadFault.{LoadFault}
use Rattle.ad_load_records.specs.Records.{records_in}
use Rattle.ad_load_records.specs.Schema.{schema_of}
use Rattle.ad_load_objects.specs.Objects.{drafts_of}
use Rattle.ad_load.specs.Links.{linked}

-- Records, schema, objects, links; and then each descriptor is computed from the root, and nothing is pending.
unfoldable pub loaded : List ℕ → Result Directory LoadFault
loaded text = do
  records ← records_in text
  schema ← schema_of records
  drafts ← drafts_of schema records
  dir ← linked schema drafts
  Ok (recomputed dir)
