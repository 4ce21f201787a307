-- The directory of a text of bytes is sound.
use Rattle.std.proofs.Common.{◌≡◌, ℕ, List, [], Ok, sym, ap, subst}
use Rattle.std.specs.List.{AllByRecursion}
use Rattle.ad_bytes.specs.Reading.{IsBytes}
use Rattle.ad_ldif.specs.Story.{story}
use Rattle.ad_dir_model.specs.Directory.{Directory}
use Rattle.ad_dir_model.specs.Loading.{recomputed}
use Rattle.ad_dir_model.specs.Soundness.{IsSound}
use Rattle.ad_dir_model.proofs.Recomputing.{recomputed_sound}
use Rattle.ad_load_records.specs.Good.{ReadsBack}
use Rattle.ad_load_records.specs.Records.{records_in}
use Rattle.ad_load_records.specs.Schema.{schema_of}
use Rattle.ad_load_records.proofs.Inverting.{bind_ok, load_is}
use Rattle.ad_load_records.proofs.Short.{text_short, schema_short}
use Rattle.ad_load_objects.specs.Objects.{drafts_of}
use Rattle.ad_load.specs.Links.{linked}
use Rattle.ad_load.specs.Loaded.{loaded}
use Rattle.ad_load.proofs.Whole.{what_is_linked}
use Rattle.ad_load_laws.proofs.ReadBytes.{EntryFits, entries_good, text_fits}
use Rattle.ad_load_laws.proofs.MadeSchema.{schema_made, records_few}

pub sound_entries : ReadsBack → (text : List ℕ) (dir : Directory) → AllByRecursion EntryFits (story text).records
    → loaded text ≡ Ok dir
    → IsSound dir
unfolding loaded
sound_entries back text dir fit e =
    let r = bind_ok (records_in text) _ dir e in
    let s = bind_ok (schema_of r.0) _ dir r.2 in
    let d = bind_ok (drafts_of s.0 r.0) _ dir s.2 in
    let l = bind_ok (linked s.0 d.0) _ dir d.2 in
    let made = schema_made r.0 s.0 (records_few text r.0 r.1) s.1 in
    let short = schema_short r.0 s.0 (text_short text r.0 r.1) s.1 in
    subst IsSound (load_is (recomputed l.0) dir l.2)
    (recomputed_sound l.0 (what_is_linked back s.0 r.0 d.0 l.0 (entries_good text r.0 fit r.1) made short d.1 l.1).read)

pub sound_text : ReadsBack → (text : List ℕ) (dir : Directory) → IsBytes text → loaded text ≡ Ok dir → IsSound dir
sound_text back text dir fits e = sound_entries back text dir (text_fits text fits) e

pub nothing_pends : (text : List ℕ) (dir : Directory) → loaded text ≡ Ok dir → dir.pending ≡ []
unfolding loaded recomputed
nothing_pends text dir e =
    let r = bind_ok (records_in text) _ dir e in
    let s = bind_ok (schema_of r.0) _ dir r.2 in
    let d = bind_ok (drafts_of s.0 r.0) _ dir s.2 in
    let l = bind_ok (linked s.0 d.0) _ dir d.2 in
    ap (λ (x : Directory). x.pending) (sym (load_is (recomputed l.0) dir l.2))
