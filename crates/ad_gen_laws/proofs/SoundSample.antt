-- The sample's directory is sound, and what stands in it.
use Rattle.std.proofs.Common.{◌≡◌, ⊎_elim, inl, ℕ, ◌≤◌, true, false, List, [], ◌∷◌, length, None, Ok, refl, sym, subst}
use Rattle.std.specs.List.{AllByRecursion}
use Rattle.prop_queue.specs.declared.pending.Pending.{Pending}
use Rattle.prop_queue.specs.Pending.{from_the_start}
use Rattle.ad_schema.specs.Attributes.{attrs_of}
use Rattle.ad_schema.specs.Classes.{classes_of}
use Rattle.ad_dir_model.specs.Object.{Object}
use Rattle.ad_dir_model.specs.Objects.{object_of, object_at, is_live, parent_at, sd_at}
use Rattle.ad_dir_model.specs.Directory.{Directory, with_pending}
use Rattle.ad_dir_model.specs.Inheritance.{covers, scratch, scratch_within, whole_at, IsSettled}
use Rattle.ad_dir_model.specs.Limits.{max_depth}
use Rattle.ad_dir_model.specs.Loading.{recomputed}
use Rattle.ad_dir_model.specs.Soundness.{IsSound}
use Rattle.ad_dir_model.specs.Tree.{root}
use Rattle.ad_dir_model.proofs.Inheriting.{Inherits}
use Rattle.ad_dir_model.proofs.PendingLaws.{nothing_covered}
use Rattle.ad_dir_model.proofs.StepSound.{inherits_of, pended}
use Rattle.ad_inherit.specs.Copies.{copies}
use Rattle.ad_inherit.specs.Whole.{explicit_part, whole}
use Rattle.ad_ldif.specs.Story.{story}
use Rattle.ad_load.specs.Loaded.{loaded}
use Rattle.ad_load_laws.proofs.ReadBytes.{EntryFits}
use Rattle.ad_load_laws.proofs.SoundText.{sound_entries}
use Rattle.ad_load_records.specs.Good.{ReadsBack}
use Rattle.ad_gen.specs.Ldif.{ldif}
use Rattle.ad_gen_laws.specs.Plain.{entries_from}
use Rattle.ad_gen_laws.specs.Sample.{plains}
use Rattle.ad_gen_laws.proofs.Classes.{on_classes}
use Rattle.ad_gen_laws.specs.Sound.{sample_directory, child, child_sd}
use Rattle.ad_gen_laws.proofs.SampleBytes.{plains_fit, entries_fit}

-- ---- sound

pub sample_sound : ReadsBack → (n : ℕ) → n ≤ 1000
    → story (ldif n) ≡ record { records = entries_from 1 (plains n); stop = None }
    → loaded (ldif n) ≡ Ok (sample_directory n) → IsSound (sample_directory n)
sample_sound back n few told is = sound_entries back (ldif n) (sample_directory n)
    (subst (λ s. AllByRecursion EntryFits s.records) (sym told) (entries_fit 1 (plains n) (plains_fit n few))) is

-- ---- with the root pending

settled_still : (dir : Directory) (pending : List Pending) (x : Object) → IsSettled dir x
    → IsSettled (with_pending pending dir) x
unfolding whole_at
settled_still dir pending x settled = settled

-- where nothing is pending each object has what it inherits, whatever is pending besides
nothing_more : (dir : Directory) (pending : List Pending) → IsSound dir → dir.pending ≡ []
    → Inherits (with_pending pending dir)
nothing_more dir pending sound none = record {
  each = λ m x is not_root. ⊎_elim (λ settled. inl (settled_still dir pending x settled))
      (λ covered. let not : covers dir.pending x.parent x.number ≡ false
      = nothing_covered dir.pending x.parent x.number none in
      absurd cc)
      ((inherits_of dir sound.each).each m x is not_root);
}

pub pended_sound : (dir : Directory) → IsSound dir → dir.pending ≡ []
    → IsSound (with_pending (from_the_start root ∷ []) dir)
pended_sound dir sound none = pended dir (from_the_start root ∷ []) sound (nothing_more dir _ sound none)
    (sound.frame.root_live, tt) (refl, tt)

-- ---- what stands in it

pub sample_attributes : (n : ℕ) → length (attrs_of (sample_directory n).schema) ≡ 19
unfolding recomputed attrs_of on_classes
sample_attributes n = refl

pub sample_classes : (n : ℕ) → length (classes_of (sample_directory n).schema) ≡ 7
unfolding recomputed on_classes
sample_classes n = refl

pub sample_root : (n : ℕ) → is_live (sample_directory n).objects root ≡ true
unfolding recomputed object_of
sample_root n = refl

pub sample_below : (n : ℕ) → parent_at (sample_directory n).objects child ≡ root
unfolding recomputed object_at object_of
sample_below n = refl

pub sample_inherits : (n : ℕ) → sd_at (sample_directory n).objects child ≡ child_sd
unfolding recomputed object_at object_of scratch scratch_within explicit_part whole copies max_depth
sample_inherits n = refl
