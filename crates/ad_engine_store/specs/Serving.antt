-- What serving a frame makes of the store.
use Rattle.std.specs.Prelude.{◌⊎◌, ℕ, List, Option, IfSome}
use Rattle.site_io.specs.Disk.{Images}
use Rattle.site_io.specs.declared.site.Site.{Ghosts}
use Rattle.gate_log.specs.Moments.{Leaves, Began}
use Rattle.ad_dir_model.specs.Directory.{Directory}
use Rattle.ad_rows_write.specs.Rows.{IsStoreOf}

-- At each moment of a call a crash leaves what it could leave as the call began, or a store of the old directory or
-- of the new one.
abbrev pub LeavesOldOrNew : Directory → Directory → Option Images → ℕ → ℕ → (ℕ → Images → List ℕ → Type 0)
    → (ℕ → Images → List ℕ → Type 0) → Type 0
LeavesOldOrNew before after reads start now old new = IfSome reads
    (λ held. Leaves start now old new (λ images. Began start old images
    ⊎ (IsStoreOf images before ⊎ IsStoreOf images after)))

-- The same of a call that leaves the directory as it was.
abbrev pub LeavesDir : Directory → Option Images → ℕ → ℕ → (ℕ → Images → List ℕ → Type 0)
    → (ℕ → Images → List ℕ → Type 0) → Type 0
LeavesDir dir reads start now old new = IfSome reads
    (λ held. Leaves start now old new (λ images. Began start old images ⊎ IsStoreOf images dir))

-- Each crash now leaves a store of the directory.
abbrev pub AllLeave : {S : Type 0} → Ghosts S → Directory → S → Type 0
AllLeave site dir x = (images : Images) (out : List ℕ) → site.left x (site.now x) images out → IsStoreOf images dir

-- Where the slots were observable as a call began, and each crash left a store of the old directory then, each
-- crash leaves one of the new directory after it.
abbrev pub LastsOn : {S : Type 0} → Ghosts S → Directory → Directory → S → S → Type 0
LastsOn site before after old new = IfSome (site.reads old) (λ held. AllLeave site before old → AllLeave site after new)
