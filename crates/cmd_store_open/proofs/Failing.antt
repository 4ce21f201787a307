-- How a command ends where a call on an engine failed.
use Rattle.std.proofs.Common.{◌≡◌, ◌↔◌, inl, inr, Bool, true, false, ap, Err}
use Rattle.std.specs.Result.{IsErrOf}
use Rattle.ad_engine_store.specs.declared.engine_fault.EngineFault.{EngineFault}
use Rattle.ad_engine_store.specs.declared.engine_fault.EngineFault.TheVariants.{Spent, Site}
use Rattle.cmd_call.specs.declared.outcome.Outcome.{Outcome}
use Rattle.cmd_call.specs.declared.outcome.Outcome.TheVariants.{SiteFailed}
use Rattle.cmd_store_open.specs.Failed.{EndsFor}

-- an engine that isn't poisoned has another fault
pub unspent_fault : {T : Type 0} (fault : EngineFault) (spent : Bool) → spent ≡ false
    → (IsErrOf {T = T} (Err fault) Spent ↔ spent ≡ true) → fault ≡ Spent → ⊥
unspent_fault fault spent unspent said is =
    let so : spent ≡ true = said.0 (ap (λ (f : EngineFault). Err f) is) in
    cc (so, unspent)

-- it ends for the site only where the site was the fault
pub of_site : {T : Type 0} (fault : EngineFault) (outcome : Outcome) → EndsFor fault outcome → outcome ≡ SiteFailed
    → IsErrOf {T = T} (Err fault) Site
of_site fault outcome (inl site) is = ap (λ (f : EngineFault). Err f) site.0
of_site fault outcome (inr memory) is = absurd (cc (is, memory.1))
