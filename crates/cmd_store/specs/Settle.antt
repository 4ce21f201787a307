-- What `adsd settle` does.
use Rattle.std.specs.Prelude.{◌≡◌, ◌⊎◌, ℕ, ◌^◌, ◌<◌, ◌≤◌, List, [], codes, IfSome, true}
use Rattle.site_io.specs.Disk.{Images}
use Rattle.site_io.specs.Told.{StaysTold}
use Rattle.site_io.specs.Outside.{OnlyLooks}
use Rattle.site_io.specs.declared.site.Site.{Ghosts as SiteGhosts}
use Rattle.gate_log.specs.Store.{IsOne}
use Rattle.ad_dir_model.specs.Directory.{Directory}
use Rattle.ad_dir_model.specs.Inheritance.{scratch}
use Rattle.ad_dir_model.specs.Objects.{is_live, sd_at}
use Rattle.ad_dir_model.specs.Steps.{steps, EmptiesAfter}
use Rattle.ad_rows_write.specs.Rows.{IsStoreOf}
use Rattle.ad_engine_store.specs.Opening.{Refuses}
use Rattle.ad_engine_store.specs.Settling.{StandsAfterSteps}
use Rattle.ad_engine_store.specs.declared.fault.OpenFault.{OpenFault}
use Rattle.cmd_call.specs.declared.outcome.Outcome.{Outcome}
use Rattle.cmd_call.specs.declared.outcome.Outcome.TheVariants.{Done, NoStore, SiteFailed, NoMemory}
use Rattle.cmd_call.specs.Call.{IsTold}
use Rattle.cmd_call.specs.Lines.{counted}
use Rattle.cmd_call.specs.Store.{HasFailed, Emits, EmitsPart, KeepsSlots, IsSiteHealthy}
use Rattle.cmd_call.specs.Outcome.{IsOfStore}
use Rattle.cmd_store_open.specs.Opened.{IsDirStore, NoDirStore, IsNoStore, EachStandsFor, LeavesSynced}
use Rattle.cmd_store_open.specs.Ready.{IsReady}
use Rattle.cmd_store_open.specs.Lines.{store_line}

-- Where nothing is pending each object has the descriptor that is recomputed from the root.
abbrev pub IsRecomputed : Directory → Type 0
IsRecomputed dir = dir.pending ≡ [] → (number : ℕ) → is_live dir.objects number ≡ true → sd_at dir.objects number
    ≡ scratch dir number

-- how many steps there were
abbrev pub steps_line : ℕ → List ℕ
steps_line n = counted (codes "steps") n

-- the slots are those of a directory of which nothing is pending, and not of version 1
abbrev pub IsIdleStore : Images → Type 0
IsIdleStore held = (dir : Directory) × IsStoreOf held dir × (dir.pending ≡ []) × (IsOne held.a → ⊥)

-- what may be emitted for the slots: how many steps there are until nothing is pending, or why they represent no
-- directory
abbrev pub IsSettleText : Images → List ℕ → Type 0
IsSettleText held text = ((dir : Directory) × (n : ℕ) × IsStoreOf held dir × EmptiesAfter n dir
    × (text ≡ steps_line n)) ⊎
    ((fault : OpenFault) × Refuses held fault × (text ≡ store_line fault))

module _ {S : Type 0} (site : SiteGhosts S) where
  -- The store represents the directory after the steps by which nothing is pending any more, whose number was
  -- emitted. Each crash from then on, and each with something emitted, leaves that directory. There were fewer than
  -- 2^24 steps, and after them each object has the descriptor that is recomputed from the root.
  pub record IsSettledFrom (dir : Directory) (old new : S) : Type 0 where
    pub n : ℕ
    pub empties : EmptiesAfter n dir
    pub few : n < 2 ^ 24
    pub recomputed : IsRecomputed (steps n dir)
    pub line : Emits (site.emitted old) (site.emitted new) (steps_line n)
    pub settled : IfSome (site.reads new) (λ held. IsStoreOf held (steps n dir))
    pub lasts : IfSome (site.reads old) (λ held. EachStandsFor site (steps n dir) new)
    pub every_crash : IfSome (site.reads old) (λ held. IfSome (site.emitted old) (λ said.
        (t : ℕ) (images : Images) (out : List ℕ) → site.now old ≤ t → site.left new t images out
        → (out ≡ said) ⊎ IsStoreOf images (steps n dir)))

  -- the store represented a directory, and was settled
  abbrev pub IsSettled : S → S → Type 0
  IsSettled old new = (dir : Directory) × IfSome (site.reads old) (λ held. IsStoreOf held dir)
      × IsSettledFrom dir old new

  -- The site failed: nothing was emitted, or a prefix of the text for the slots.
  abbrev pub IsPartlySettled : S → S → Type 0
  IsPartlySettled old new = StaysTold (site.emitted old) (site.emitted new)
      ⊎ ((text : List ℕ) × IfSome (site.reads old) (λ held. IsSettleText held text) × EmitsPart (site.emitted old)
      (site.emitted new) text)

  pub record SettleDoes (old new : S) (outcome : Outcome) : Type 0 where
    pub done : outcome ≡ Done → IsSettled old new
    pub no_store : outcome ≡ NoStore → IsNoStore site old new
    -- slots that represent a directory are settled, and others refused, unless the site fails or memory runs out
    pub complete : IsTold IsDirStore (site.reads old) → IsSiteHealthy site old new
        → (outcome ≡ Done) ⊎ (outcome ≡ NoMemory)
    pub refuses : IsTold NoDirStore (site.reads old) → IsSiteHealthy site old new → (outcome ≡ NoStore)
        ⊎ (outcome ≡ NoMemory)
    pub partly : outcome ≡ SiteFailed → IsPartlySettled old new
    pub quiet : outcome ≡ NoMemory → StaysTold (site.emitted old) (site.emitted new)
    -- no slot is written that represents no directory, and none of a store of version 2 of which nothing is pending
    pub unwritten : outcome ≡ NoStore → KeepsSlots site old new
    pub none : IsTold NoDirStore (site.reads old) → KeepsSlots site old new
    pub idle : IsTold IsIdleStore (site.reads old) → KeepsSlots site old new
    -- Where a read gave a directory as the call began, whatever a crash could leave then: at each moment, whatever
    -- comes, a crash leaves what it could leave as the call began, and nothing was emitted yet, or from the sync on
    -- the directory after some number of steps.
    pub any_moment : (dir : Directory) → IsTold (λ held. IsStoreOf held dir) (site.reads old)
        → LeavesSynced site (λ images out. StandsAfterSteps dir images) old new
    pub only : IsOfStore outcome

  -- ---- steps of the command

  -- what the command did, and that a failure has its cause
  abbrev pub Settles : S → S → Outcome → Type 0
  Settles old new outcome = SettleDoes old new outcome × (outcome ≡ SiteFailed → HasFailed site old new)

  -- the same since any earlier moment from which on the slots, which represented the directory, were only looked at
  abbrev pub IsSettledSince : Directory → S → S → Outcome → Type 0
  IsSettledSince dir opened new outcome = (old : S) → OnlyLooks site old opened → IfSome (site.reads old)
      (λ held. IsStoreOf held dir)
      → Settles old new outcome

  -- and since one from which on the store was made ready
  abbrev pub IsSettledReady : Directory → S → S → Outcome → Type 0
  IsSettledReady dir ready new outcome = (old : S) → IsReady site dir old ready → Settles old new outcome
