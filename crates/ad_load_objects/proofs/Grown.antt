-- Each record adds one draft at most.
use Rattle.std.proofs.Common.{◌≡◌, ◌+◌, ◌≤◌, Bool, true, false, Ok, List, [], ◌∷◌, ◌++◌, length, ap, arith}
use Rattle.std.specs.Prelude.{if◌then◌else◌}
use Rattle.ad_bytes.specs.Reading.{◌>>=◌}
use Rattle.ad_schema.specs.declared.line.SchemaRecord.{SchemaRecord}
use Rattle.ad_load_records.specs.Records.{Record}
use Rattle.ad_load_records.proofs.Inverting.{bind_ok}
use Rattle.ad_load_objects.specs.Drafts.{Draft}
use Rattle.ad_load_objects.specs.Objects.{is_object, draft_of, with_record}
use Rattle.ad_load_objects.proofs.Places.{length_more}

pub record_more : (schema : List SchemaRecord) (drafts next : List Draft) (r : Record) → with_record schema drafts r
    ≡ Ok next → length next ≤ length drafts + 1
unfolding with_record
record_more schema drafts next r e = by (is_object r) e where
  by : (test : Bool) → (if test then (draft_of schema drafts r >>= λ draft. Ok (drafts ++ draft ∷ []))
      else Ok drafts) ≡ Ok next → length next ≤ length drafts + 1
  by true q =
      let a = bind_ok (draft_of schema drafts r) _ next q in
      let same : drafts ++ a.0 ∷ [] ≡ next = cc in
      let long : length (drafts ++ a.0 ∷ []) ≡ length next = ap length same in
      omega (arith, long, length_more drafts a.0)
  by false q = let same : drafts ≡ next = cc in omega (arith, ap length same)
