-- What a refusal comes to at the caller.
use Rattle.std.proofs.Common.{◌≡◌, ℕ, false, List, Result, Err, refl, inl, inr}
use Rattle.adsd_c.specs.declared.refusal.Refusal.{Refusal}
use Rattle.adsd_c.specs.declared.refusal.Refusal.TheVariants as refusal
use Rattle.adsd_c.specs.Refusal.{is_memory}
use Rattle.adsd_c.specs.Delivery.{Refuses, Delivers}

-- It is the one that was expected, or that of want of memory.
pub refused : (fault : Refusal) (expected : Result (List ℕ) Refusal) (code : ℕ) (kept : List ℕ) (size : ℕ)
    → (is_memory fault ≡ false → expected ≡ Err fault) → Refuses fault code kept kept size
    → Delivers expected code kept kept size
refused refusal.Memory expected code kept size by told = inr told
refused refusal.Sd expected code kept size by told = rw (by refl) (inl told)
refused refusal.Parent expected code kept size by told = rw (by refl) (inl told)
refused refusal.Token expected code kept size by told = rw (by refl) (inl told)
refused refusal.OwnSid expected code kept size by told = rw (by refl) (inl told)
refused refusal.Path expected code kept size by told = rw (by refl) (inl told)
refused refusal.Tree expected code kept size by told = rw (by refl) (inl told)
refused refusal.Sid expected code kept size by told = rw (by refl) (inl told)
refused refusal.Guid expected code kept size by told = rw (by refl) (inl told)
refused refusal.TooLong expected code kept size by told = rw (by refl) (inl told)
refused refusal.Normal expected code kept size by told = rw (by refl) (inl told)
refused refusal.Domain expected code kept size by told = rw (by refl) (inl told)
refused (refusal.Text place fault) expected code kept size by told = rw (by refl) (inl told)
