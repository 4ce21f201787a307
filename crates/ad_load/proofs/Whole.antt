-- What the phases make of good records is a directory as it is read, in order; so it is sound once it is settled.
use Rattle.std.proofs.Common.{◌≡◌, ℕ, zero, suc, ◌+◌, true, Some, Result, Ok, Err, List, [], ◌∷◌, refl, sym, ap}
use Rattle.std.proofs.Common.{subst, ◌∙◌, arith}
use Rattle.std.specs.Prelude.{slice_get}
use Rattle.std.specs.List.{AllByRecursion, list_all}
use Rattle.ad_bytes.specs.Reading.{◌>>=◌}
use Rattle.ad_schema.specs.declared.line.SchemaRecord.{SchemaRecord}
use Rattle.ad_schema.specs.Sound.{MakeSchema}
use Rattle.ad_dir_model.specs.Object.{Object}
use Rattle.ad_dir_model.specs.Directory.{Meta, Directory}
use Rattle.ad_dir_model.specs.Loading.{recomputed}
use Rattle.ad_load_records.specs.Schema.{schema_of}
use Rattle.ad_load.specs.Loaded.{loaded}
use Rattle.ad_dir_model.specs.Soundness.{is_short_record}
use Rattle.ad_dir_model.specs.Conditions.{IsAllRead}
use Rattle.ad_load_records.specs.declared.fault.LoadFault.{LoadFault}
use Rattle.ad_load_records.specs.declared.fault.LoadCause.TheVariants as cause
use Rattle.ad_load_records.specs.Faults.{of_all}
use Rattle.ad_load_objects.specs.Through.{through}
use Rattle.ad_load_records.specs.Records.{Record, records_in}
use Rattle.ad_load_objects.specs.Drafts.{Draft}
use Rattle.ad_load_objects.specs.Objects.{by_parts, has_root, with_record, drafts_of}
use Rattle.ad_load.specs.Links.{domain_of, objects_of, directory_with, unsettled, is_within_limits, all_defaults}
use Rattle.ad_load.specs.Links.{linked}
use Rattle.ad_load_records.specs.Good.{IsGoodRecord, ReadsBack}
use Rattle.ad_load.specs.Settling.{HasPlaceAbove, AreInOrder, unsettled_with, all_settled, made_of}
use Rattle.ad_load_records.proofs.Inverting.{bind_ok, need_ok, load_is}
use Rattle.ad_load_objects.proofs.Places.{some_is}
use Rattle.ad_load_objects.proofs.Good.{AreGood, all_good}
use Rattle.ad_load.proofs.Made.{IsObjectOf, AreObjectsOf, all_objects}
use Rattle.ad_load.proofs.Placed.{parent_before}
use Rattle.ad_load.proofs.Read.{all_within, is_all_read}
use Rattle.ad_load_objects.proofs.Sorting.{sorted_keeps, root_is_there}

-- the draft of the object at a place
draft_at : (schema : List SchemaRecord) (drafts : List Draft) (first : ℕ) (ds : List Draft) (os : List Object)
    (i : ℕ) (o : Object) → AreObjectsOf schema drafts first ds os → slice_get os i ≡ Some o
    → (d : Draft) × (slice_get ds i ≡ Some d) × IsObjectOf schema drafts (first + i) d o
draft_at schema drafts first [] [] i o are at = absurd cc
draft_at schema drafts first [] (x ∷ xs) i o are at = absurd are
draft_at schema drafts first (d ∷ ds) [] i o are at = absurd are
draft_at schema drafts first (d ∷ ds) (x ∷ xs) zero o are at =
    let number : first ≡ first + 0 = omega arith in (
      d,
      refl,
      subst (λ (k : ℕ). IsObjectOf schema drafts k d o) number
          (subst (IsObjectOf schema drafts first d) (some_is x o at) are.0),
    )
draft_at schema drafts first (d ∷ ds) (x ∷ xs) (suc i) o are at =
    let more = draft_at schema drafts (first + 1) ds xs i o are.1 at in
    let number : first + 1 + i ≡ first + suc i = omega arith in
    (more.0, more.1, subst (λ (k : ℕ). IsObjectOf schema drafts k more.0 o) number more.2)

behind_parent : (schema : List SchemaRecord) (drafts : List Draft) (objects : List Object) → AreGood schema drafts
    → AreObjectsOf schema drafts 1 drafts objects → (place : ℕ) → HasPlaceAbove objects place
behind_parent schema drafts objects good made zero o at not_first = absurd (not_first refl)
behind_parent schema drafts objects good made (suc i) o at not_first =
    let d = draft_at schema drafts 1 drafts objects (suc i) o made at in
    let p = parent_before schema drafts objects good made i d.0 d.1 in
    let parent : o.parent ≡ suc p.0 = d.2.parent ∙ p.2 in
    (omega (arith, parent), omega (arith, parent, p.1))

in_order : (schema : List SchemaRecord) (drafts : List Draft) (objects : List Object) → AreGood schema drafts
    → AreObjectsOf schema drafts 1 drafts objects → AreInOrder objects
in_order schema drafts objects good made = record {
  number = λ place o at. let d = draft_at schema drafts 1 drafts objects place o made at in let e : o.number ≡ 1
      + place = d.2.number in omega (arith, e);
  above = behind_parent schema drafts objects good made;
}

-- what holds of what was linked
pub record IsLinked (dir : Directory) : Type 0 where
  pub read : IsAllRead dir
  pub order : AreInOrder dir.objects

pub what_is_linked : ReadsBack → (schema : List SchemaRecord) (records : List Record) (drafts : List Draft)
    (dir : Directory) → AllByRecursion IsGoodRecord records → MakeSchema schema
    → list_all is_short_record schema ≡ true
    → drafts_of schema records ≡ Ok drafts → linked schema drafts ≡ Ok dir → IsLinked dir
unfolding drafts_of linked unsettled
what_is_linked reads schema records drafts dir are makes short of_records is_linked =
    let d = need_ok (has_root (by_parts records)) (of_all cause.Root)
    (λ (u : Unit {0}). through (with_record schema) [] (by_parts records)) drafts of_records in
    let good = all_good reads schema (by_parts records) drafts (sorted_keeps IsGoodRecord records are) d.1 in
    let first = root_is_there schema [] drafts (by_parts records) d.0 d.1 in
    let with_objects : List Object → Result Directory LoadFault = λ (os : List Object). Ok
    (directory_with schema drafts os) in
    let u = bind_ok (objects_of schema drafts >>= with_objects) _ dir is_linked in
    let w = need_ok (is_within_limits drafts u.0) (of_all cause.Limit) _ dir u.2 in
    let f = bind_ok (all_defaults schema (domain_of schema drafts)) _ dir w.1 in
    let o = bind_ok (objects_of schema drafts) with_objects u.0 u.1 in
    let objects : List Object = o.0 in
    let is : directory_with schema drafts objects ≡ u.0 = load_is (directory_with schema drafts objects) u.0 o.2 in
    let same : u.0 ≡ dir = load_is u.0 dir f.2 in
    let made = all_objects schema drafts objects o.1 in
    let within = all_within drafts (directory_with schema drafts objects) (ap (is_within_limits drafts) is ∙ w.0) in
    subst IsLinked (is ∙ same) (record {
      read = is_all_read schema drafts objects good made first within makes short f.0 f.1;
      order = in_order schema drafts objects good made;
    })

-- ---- the phases after the schema, and all of them

pub drafts_stop : (schema : List SchemaRecord) (records : List Record) (f : LoadFault) → drafts_of schema records
    ≡ Err f → made_of schema records ≡ Err f
unfolding made_of
drafts_stop schema records f e = ap (λ (r : Result (List Draft) LoadFault). r >>= λ drafts. linked schema drafts
    >>= λ dir. Ok (recomputed dir)) e

pub links_stop : (schema : List SchemaRecord) (records : List Record) (drafts : List Draft) (f : LoadFault)
    → drafts_of schema records ≡ Ok drafts → linked schema drafts ≡ Err f → made_of schema records ≡ Err f
unfolding made_of
links_stop schema records drafts f p q =
    ap (λ (r : Result (List Draft) LoadFault). r >>= λ drafts. linked schema drafts >>= λ dir. Ok (recomputed dir)) p
    ∙ ap (λ (r : Result Directory LoadFault). r >>= λ dir. Ok (recomputed dir)) q

pub all_made : (schema : List SchemaRecord) (records : List Record) (drafts : List Draft) (dir : Directory)
    → drafts_of schema records ≡ Ok drafts → linked schema drafts ≡ Ok dir
    → made_of schema records ≡ Ok (recomputed dir)
unfolding made_of
all_made schema records drafts dir p q =
    ap (λ (r : Result (List Draft) LoadFault). r >>= λ drafts. linked schema drafts >>= λ dir. Ok (recomputed dir)) p
    ∙ ap (λ (r : Result Directory LoadFault). r >>= λ dir. Ok (recomputed dir)) q

pub recomputed_is : (schema : List SchemaRecord) (objects new : List Object) (meta : Meta)
    → new ≡ all_settled (unsettled_with schema objects meta)
    → recomputed (unsettled_with schema objects meta) ≡ unsettled_with schema new meta
unfolding recomputed
recomputed_is schema objects new meta e = ap (λ (os : List Object). unsettled_with schema os meta) (sym e)

pub records_stop : (text : List ℕ) (f : LoadFault) → records_in text ≡ Err f → loaded text ≡ Err f
unfolding loaded
records_stop text f e = ap
    (λ (r : Result
    (List Record) LoadFault). r >>= λ records. schema_of records >>= λ schema. drafts_of schema records >>= λ drafts.
    linked schema drafts >>= λ dir. Ok (recomputed dir)) e

pub schema_stop : (text : List ℕ) (records : List Record) (f : LoadFault) → records_in text ≡ Ok records
    → schema_of records ≡ Err f → loaded text ≡ Err f
unfolding loaded
schema_stop text records f p q =
    ap (λ (r : Result
    (List Record) LoadFault). r >>= λ records. schema_of records >>= λ schema. drafts_of schema records >>= λ drafts.
    linked schema drafts >>= λ dir. Ok (recomputed dir)) p
    ∙ ap (λ (r : Result
    (List SchemaRecord) LoadFault). r >>= λ schema. drafts_of schema records >>= λ drafts. linked schema drafts
    >>= λ dir. Ok (recomputed dir)) q

pub loaded_is : (text : List ℕ) (records : List Record) (schema : List SchemaRecord) → records_in text ≡ Ok records
    → schema_of records ≡ Ok schema → loaded text ≡ made_of schema records
unfolding loaded made_of
loaded_is text records schema p q =
    ap (λ (r : Result
    (List Record) LoadFault). r >>= λ records. schema_of records >>= λ schema. drafts_of schema records >>= λ drafts.
    linked schema drafts >>= λ dir. Ok (recomputed dir)) p
    ∙ ap (λ (r : Result
    (List SchemaRecord) LoadFault). r >>= λ schema. drafts_of schema records >>= λ drafts. linked schema drafts
    >>= λ dir. Ok (recomputed dir)) q
