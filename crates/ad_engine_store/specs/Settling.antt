-- What settling a directory makes of it and of its store.
use Rattle.std.specs.Prelude.{◌≡◌, ◌⊎◌, ℕ, zero, suc, ◌<◌, List, [], ◌∷◌, Option, IfSome}
use Rattle.site_io.specs.Disk.{Images}
use Rattle.site_io.specs.declared.site.Site.{Ghosts}
use Rattle.gate_log.specs.Moments.{Leaves, Began}
use Rattle.prop_queue.specs.declared.pending.Pending.{Pending}
use Rattle.ad_dir_model.specs.Directory.{Directory}
use Rattle.ad_dir_model.specs.Steps.{step, steps}
use Rattle.ad_rows_write.specs.Rows.{IsStoreOf}

-- the slots represent the directory after some number of steps
abbrev pub StandsAfterSteps : Directory → Images → Type 0
StandsAfterSteps dir images = (n : ℕ) × IsStoreOf images (steps n dir)

-- At each moment of a call a crash leaves what it could leave as the call began, or a store of the directory after
-- some number of steps.
abbrev pub LeavesSteps : Directory → Option Images → ℕ → ℕ → (ℕ → Images → List ℕ → Type 0)
    → (ℕ → Images → List ℕ → Type 0) → Type 0
LeavesSteps dir reads before after old new = IfSome reads
    (λ held. Leaves before after old new (λ images. Began before old images ⊎ StandsAfterSteps dir images))

-- So many steps lead from one directory to the other, each made while something was pending.
pub record AreSteps (n : ℕ) (old new : Directory) : Type 0 where
  pub stepped : new ≡ steps n old
  pub not_before : (m : ℕ) → m < n → (steps m old).pending ≡ [] → ⊥

-- Where the slots were observable as a call began, each crash after it leaves a store of the directory.
abbrev pub LastsAs : {S : Type 0} → Ghosts S → Directory → S → S → Type 0
LastsAs site dir old new = IfSome (site.reads old)
    (λ held. (images : Images) (out : List ℕ) → site.left new (site.now new) images out → IsStoreOf images dir)

-- ---- of the steps that are asked for, how many are made: fewer where nothing is pending before

abbrev pub one_more : List Pending → ℕ → ℕ
one_more [] made = 0
one_more (entry ∷ others) made = suc made

-- how many are made
unfoldable pub steps_made : ℕ → Directory → ℕ
steps_made zero dir = 0
steps_made (suc n) dir = one_more dir.pending (steps_made n (step dir))
