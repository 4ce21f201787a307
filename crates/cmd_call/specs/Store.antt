-- What calls over a store say of its slots and of the output.
use Rattle.std.specs.Prelude.{◌≡◌, ◌⊎◌, ℕ, ◌<◌, ◌≤◌, Bool, true, false, List, ◌++◌, length, take, Option}
use Rattle.site_io.specs.Counts.{HasRisen}
use Rattle.site_io.specs.Disk.{Images, GoesOn, LeavesEmitted}
use Rattle.site_io.specs.Told.{BothTold, StaysTold}
use Rattle.site_io.specs.declared.source.Source.{Ghosts as SourceGhosts}
use Rattle.site_io.specs.declared.site.Site.{Ghosts as SiteGhosts}
use Rattle.cmd_call.specs.declared.outcome.Outcome.{Outcome}
use Rattle.cmd_call.specs.declared.outcome.Outcome.TheVariants.{SiteFailed, NoMemory}

-- this text was emitted, where the output is told
abbrev pub Emits : Option (List ℕ) → Option (List ℕ) → List ℕ → Type 0
Emits before after text = BothTold before after (λ old new. new ≡ old ++ text)

-- a prefix of it was
abbrev pub EmitsPart : Option (List ℕ) → Option (List ℕ) → List ℕ → Type 0
EmitsPart before after text = BothTold before after (λ old new. (n : ℕ) × (new ≡ old ++ take n text))

-- both slots are empty, or one isn't
abbrev pub AreEmpty : Images → Type 0
AreEmpty held = (length held.a ≡ 0) × (length held.b ≡ 0)

abbrev pub IsTaken : Images → Type 0
IsTaken held = (0 < length held.a) ⊎ (0 < length held.b)

module _ {S : Type 0} (site : SiteGhosts S) where
  -- The slots hold what they held, and at each moment since the call began a crash leaves of them what it could
  -- leave then.
  pub record KeepsSlots (old new : S) : Type 0 where
    pub held : StaysTold (site.reads old) (site.reads new)
    pub images : (t : ℕ) (images : Images) (out : List ℕ) → site.now old ≤ t → site.left new t images out
        → (began : List ℕ) × site.left old (site.now old) images began

  -- no fault of the site was counted
  pub record IsSiteHealthy (old new : S) : Type 0 where
    pub slots : HasRisen (site.slot_faults old) (site.slot_faults new) → ⊥
    pub output : HasRisen (site.out_faults old) (site.out_faults new) → ⊥

  -- one of the two counts rose
  abbrev pub HasFailed : S → S → Type 0
  HasFailed old new = HasRisen (site.slot_faults old) (site.slot_faults new) ⊎ HasRisen (site.out_faults old)
      (site.out_faults new)

module _ {I S : Type 0} (source : SourceGhosts I) (site : SiteGhosts S) where
  -- no fault was counted
  pub record IsAllHealthy (from to : I) (old new : S) : Type 0 where
    pub reads_well : HasRisen (source.faults from) (source.faults to) → ⊥
    pub keeps_well : IsSiteHealthy site old new

-- ---- steps of such a call

-- both slots are empty, or one isn't
abbrev pub SeesEmpty : Bool → Images → Type 0
SeesEmpty true held = AreEmpty held
SeesEmpty false held = IsTaken held

module _ {S : Type 0} (site : SiteGhosts S) where
  -- A text was emitted, or a prefix of it and the output failed; the slots are as they were.
  pub record Says (old new : S) (text : List ℕ) (then outcome : Outcome) : Type 0 where
    pub ended : ((outcome ≡ then) × Emits (site.emitted old) (site.emitted new) text) ⊎
        ((outcome ≡ SiteFailed) × EmitsPart (site.emitted old) (site.emitted new) text
        × HasRisen (site.out_faults old) (site.out_faults new))
    pub held : StaysTold (site.reads old) (site.reads new)
    pub moments : GoesOn (site.now old) (site.now new) (site.left old) (site.left new)
    pub images : LeavesEmitted text (site.now old) (site.left old) (site.left new)
    pub never_falls : site.out_faults old ≤ site.out_faults new
    pub slot_faults : site.slot_faults new ≡ site.slot_faults old

  -- nothing was done, for want of memory, or a text was emitted
  abbrev pub SaysUnless : S → S → List ℕ → Outcome → Outcome → Type 0
  SaysUnless old new text then outcome = ((outcome ≡ NoMemory) × (new ≡ old)) ⊎ Says old new text then outcome
