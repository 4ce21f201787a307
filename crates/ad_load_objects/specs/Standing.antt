-- The object of a record whose parent and class are known. Only for private contracts and proofs.
use Rattle.std.specs.Prelude.{ℕ, List, Result, Ok}
use Rattle.ad_bytes.specs.Reading.{◌>>=◌}
use Rattle.ad_schema.specs.declared.line.SchemaRecord.{SchemaRecord}
use Rattle.ad_load_records.specs.declared.fault.LoadFault.{LoadFault}
use Rattle.ad_load_records.specs.Records.{Record}
use Rattle.ad_load_objects.specs.Drafts.{Draft}
use Rattle.ad_load_objects.specs.Objects.{with_lines}

abbrev pub draft_at : List SchemaRecord → List Draft → ℕ → ℕ → Record → Result Draft LoadFault
draft_at schema drafts parent class r = do
  kept ← with_lines schema drafts class r.fields
  Ok (record { rdns = r.rdns; parent = parent; class = class; given = kept.given; sd = kept.sd })
