-- What a log knows of its store.
use Rattle.std.specs.Prelude.{◌≡◌, ℕ, List, true, false, Option, IfSome}
use Rattle.site_io.specs.Disk.{Images}
use Rattle.gate_log.specs.Counts.{Counts}
use Rattle.gate_log.specs.Moments.{LastsWhole}
use Rattle.gate_log.specs.Store.{Rests}
use Rattle.gate_log.specs.declared.log.Log.{Log}

-- the slots hold what this log knows of them, and these bodies
pub record RestsIn (log : Log) (held : Images) (bodies : List (List ℕ)) : Type 0 where
  pub rests : Rests log.version log.live log.generation log.end log.other_open held bodies
  pub counts : Counts log.first log.behind bodies

-- What a call on a log takes and leaves, unless an earlier one failed: the slots hold what the log knows of them,
-- and where it is settled they last.
abbrev pub StandsIn : Log → Option Images → ℕ → (ℕ → Images → List ℕ → Type 0) → Type 0
StandsIn log reads now left = log.spent ≡ false → IfSome reads
    (λ held. (bodies : List (List ℕ)) × RestsIn log held bodies) × (log.settled ≡ true → LastsWhole reads now left)
