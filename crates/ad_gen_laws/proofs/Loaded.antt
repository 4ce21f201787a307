-- The directory of the sample's text.
use Rattle.std.proofs.Common.{◌≡◌, ℕ, ◌≤◌, Ok, refl}
use Rattle.ad_dir_model.specs.Loading.{recomputed}
use Rattle.ad_gen.specs.Ldif.{ldif}
use Rattle.ad_load_records.specs.Schema.{schema_of}
use Rattle.ad_load.specs.Loaded.{loaded}
use Rattle.ad_gen_laws.specs.Plain.{records_from}
use Rattle.ad_gen_laws.specs.Base.{base_schema}
use Rattle.ad_gen_laws.specs.Sample.{plains}
use Rattle.ad_gen_laws.specs.Before.{unsettled_sample}
use Rattle.ad_gen_laws.proofs.Schema.{records_are, all_are_added, base_finished}
use Rattle.ad_gen_laws.proofs.Walk.{drafts_are}
use Rattle.ad_gen_laws.proofs.Limits.{linked_is}

schema_of_records : (n : ℕ) → schema_of (records_from 1 (plains n)) ≡ Ok base_schema
unfolding schema_of
schema_of_records n = rw (all_are_added n) (rw base_finished refl)

pub loaded_is : (n : ℕ) → 1 ≤ n → n ≤ 1000 → loaded (ldif n) ≡ Ok (recomputed (unsettled_sample n))
unfolding loaded
loaded_is n some few =
    rw (records_are n few) (rw (schema_of_records n) (rw (drafts_are n few) (rw (linked_is n some few) refl)))
