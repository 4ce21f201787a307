-- How a command ends where a call failed on an engine that is not poisoned.
use Rattle.std.specs.Prelude.{◌≡◌, ◌⊎◌}
use Rattle.ad_engine_store.specs.declared.engine_fault.EngineFault.{EngineFault}
use Rattle.ad_engine_store.specs.declared.engine_fault.EngineFault.TheVariants.{Site, Memory}
use Rattle.cmd_call.specs.declared.outcome.Outcome.{Outcome}
use Rattle.cmd_call.specs.declared.outcome.Outcome.TheVariants.{SiteFailed, NoMemory}

abbrev pub EndsFor : EngineFault → Outcome → Type 0
EndsFor fault outcome = ((fault ≡ Site) × (outcome ≡ SiteFailed)) ⊎ ((fault ≡ Memory) × (outcome ≡ NoMemory))
