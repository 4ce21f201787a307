-- What the four steps of a rewriting leave.
use Rattle.std.specs.Prelude.{◌≡◌, ℕ, ◌+◌, List, [], ◌∷◌, Bool, true, false, if◌then◌else◌}
use Rattle.site_io.specs.Disk.{Images, at_slot, with_slot, put}
use Rattle.site_io.specs.declared.slot.Slot.{Slot}
use Rattle.site_io.specs.declared.slot.Slot.TheVariants.{A}
use Rattle.gate_log.specs.Layout.{snapshot_end, Fresh, HasRecords}
use Rattle.gate_log.specs.Store.{other, Rests, number_of}
use Rattle.gate_log.specs.declared.version.Version.{Version}
use Rattle.gate_log.specs.declared.version.Version.TheVariants.{One, Two}

-- whether the other slot has to be closed first: in version 1 it may hold anything
abbrev pub must_close : Version → Bool → Bool
must_close One is_open = true
must_close Two is_open = is_open

abbrev pub is_one : Version → Bool
is_one One = true
is_one Two = false

abbrev pub is_two : Version → Bool
is_two One = false
is_two Two = true

-- a slot is closed, where that is asked
abbrev pub Closes : Bool → Slot → Images → Images → Type 0
Closes asked slot old new = new ≡ (if asked then with_slot slot old (put 0 (0 ∷ []) (at_slot slot old)) else old)

-- after the first two steps: the live slot is as it was, and in the other a snapshot stands behind a closed gate
pub record Prepared (version : Version) (live : Slot) (generation end : ℕ) (held : Images) (bodies : List (List ℕ))
    (body : List ℕ) : Type 0 where
  pub rests : Rests version live generation end false held bodies
  pub fresh : Fresh (at_slot (other live) held) (generation + 1) body

-- in version 1 slot A is live, and the generation is 1
abbrev pub IsOneAt : Version → Slot → ℕ → Type 0
IsOneAt One live generation = (live ≡ A) × (generation ≡ 1)
IsOneAt Two live generation = Unit {0}

-- after the third: the other slot is open, and has the one body
pub record Switched (version : Version) (live : Slot) (generation end : ℕ) (held : Images) (bodies : List (List ℕ))
    (body : List ℕ) : Type 0 where
  pub old : HasRecords (at_slot live held) (number_of version) generation end bodies
  pub new : HasRecords (at_slot (other live) held) 2 (generation + 1) (snapshot_end body) (body ∷ [])
  pub one : IsOneAt version live generation
