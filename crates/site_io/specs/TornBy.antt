-- One call more, as the loop that makes a crash's states takes it.
use Rattle.std.specs.Prelude.{◌≡◌, ℕ, List, length}
use Rattle.site_io.specs.Disk.{Torn}
use Rattle.site_io.specs.declared.slot.Slot.{Slot}
use Rattle.site_io.specs.declared.slot.Slot.TheVariants.{A, B}
use Rattle.site_io.specs.declared.call.Call.{Call}
use Rattle.site_io.specs.declared.call.Call.TheVariants.{Write, Sync, Emit, Other}

-- What a crash may make of a slot in one call, where it held this.
abbrev pub TornBy : Slot → List ℕ → Call → List ℕ → List ℕ → Type 0
TornBy A held (Write A at bytes) old new = Torn at (length bytes.items) old new
TornBy B held (Write B at bytes) old new = Torn at (length bytes.items) old new
TornBy A held (Sync A) old new = new ≡ held
TornBy B held (Sync B) old new = new ≡ held
TornBy A held (Write B at bytes) old new = new ≡ old
TornBy B held (Write A at bytes) old new = new ≡ old
TornBy A held (Sync B) old new = new ≡ old
TornBy B held (Sync A) old new = new ≡ old
TornBy slot held (Emit bytes) old new = new ≡ old
TornBy slot held Other old new = new ≡ old
