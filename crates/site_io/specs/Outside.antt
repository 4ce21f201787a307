-- What a call on a site leaves outside of what it is for.
use Rattle.std.specs.Prelude.{◌≡◌, ℕ, ◌≤◌, List, Option}
use Rattle.site_io.specs.Told.{BothTold, StaysTold}
use Rattle.site_io.specs.Disk.{Images, GoesOn, LeavesSame}
use Rattle.site_io.specs.declared.site.Site.{Ghosts}

-- It is told after exactly where it is told before.
abbrev pub StaysKnown : Option Images → Option Images → Type 0
StaysKnown old new = BothTold old new (λ before after. Unit {0})

-- At no moment since the call began is there another output than there could be then.
abbrev pub EmitsNothing : ℕ → (ℕ → Images → List ℕ → Type 0) → (ℕ → Images → List ℕ → Type 0) → Type 0
EmitsNothing before old new = (t : ℕ) (images : Images) (out : List ℕ) → before ≤ t → new t images out
    → (began : Images) × old before began out

module _ {S : Type 0} (site : Ghosts S) where
  -- A call that does nothing but to the slots. It keeps whether they are told; what was emitted and the output's
  -- faults are as they were; and the slots' faults are no fewer.
  pub record TouchesSlots (old new : S) : Type 0 where
    pub known : StaysKnown (site.reads old) (site.reads new)
    pub output : StaysTold (site.emitted old) (site.emitted new)
    pub moments : GoesOn (site.now old) (site.now new) (site.left old) (site.left new)
    pub quiet : EmitsNothing (site.now old) (site.left old) (site.left new)
    pub never_falls : site.slot_faults old ≤ site.slot_faults new
    pub out_faults : site.out_faults new ≡ site.out_faults old

  -- A call that only looks: besides, the slots hold what they held, and a crash leaves nothing that it couldn't
  -- leave before.
  pub record OnlyLooks (old new : S) : Type 0 where
    pub held : StaysTold (site.reads old) (site.reads new)
    pub output : StaysTold (site.emitted old) (site.emitted new)
    pub moments : GoesOn (site.now old) (site.now new) (site.left old) (site.left new)
    pub images : LeavesSame (site.now old) (site.left old) (site.left new)
    pub never_falls : site.slot_faults old ≤ site.slot_faults new
    pub out_faults : site.out_faults new ≡ site.out_faults old
