-- The number that is told: none of a sound directory, and one of any other.
use Rattle.std.proofs.Common.{◌≡◌, ◌∙◌, inl, inr, ℕ, Some, sym}
use Rattle.std.proofs.lemmas.Bool.{cases_order}
use Rattle.ad_dir_model.specs.Directory.{Directory}
use Rattle.ad_dir_model.specs.Soundness.{IsSound}
use Rattle.ad_dir_model.proofs.Reporting.{not_bad, bad_once}
use Rattle.ad_rows_sound.specs.Least.{IsLeast, OfObject}
use Rattle.ad_rows_sound.specs.Told.{IsSoundAmong, IsToldAt, frame_fails, object_fails, entry_fails}
use Rattle.ad_rows_sound.proofs.Judged.{among_each}

pub never_told : (dir : Directory) (n : ℕ) → IsSound dir → IsToldAt dir n → ⊥
never_told dir n sound (frame_fails zero fails) = fails sound.frame
never_told dir n sound (object_fails is least)
    = least.0 (among_each dir.schema dir.objects dir.pending dir.meta sound.each n)
never_told dir n sound (entry_fails is each bad) = not_bad dir n sound bad

one_least : (P : ℕ → Type 0) (n m : ℕ) → IsLeast P (Some n) → IsLeast P (Some m) → n ≡ m
one_least P n m a b = elim (cases_order n m) [
  | inl same ↦ same
  | inr apart ↦ elim apart [
    | inl less ↦ absurd (a.0 (b.1 n less))
    | inr more ↦ absurd (b.0 (a.1 m more))
  ]
]

pub told_once : (dir : Directory) (n m : ℕ) → IsToldAt dir n → IsToldAt dir m → n ≡ m
told_once dir n m (frame_fails zero fails) (frame_fails zero_too fails_too) = zero ∙ sym zero_too
told_once dir n m (frame_fails zero fails) (object_fails is least) = absurd (fails is)
told_once dir n m (frame_fails zero fails) (entry_fails is each bad) = absurd (fails is)
told_once dir n m (object_fails is least) (frame_fails zero fails) = absurd (fails is)
told_once dir n m (object_fails is least) (object_fails is_too least_too)
    = one_least (OfObject dir.objects (IsSoundAmong dir)) n m least least_too
told_once dir n m (object_fails is least) (entry_fails is_too each bad) = absurd (least.0 (each n))
told_once dir n m (entry_fails is each bad) (frame_fails zero fails) = absurd (fails is)
told_once dir n m (entry_fails is each bad) (object_fails is_too least) = absurd (least.0 (each m))
told_once dir n m (entry_fails is each bad) (entry_fails is_too each_too bad_too) = bad_once dir n m bad bad_too
