-- What a step of a reader gives, carried on.
use Rattle.std.proofs.Common.{◌≡◌, Result, Ok, Err, OnErr, ap, ◌∙◌}
use Rattle.ad_bytes.specs.Reading.{◌>>=◌}
use Rattle.ad_ldif.specs.declared.fault.LdifFault.{LdifFault}
use Rattle.ad_ldif.specs.declared.fault.LdifFault.TheVariants as faults
use Rattle.ad_ldif.specs.Records.{Fault}
use Rattle.ad_ldif.specs.Story.{Fails}

pub on_err : {T E : Type 0} (r : Result T E) (P : Type 0) → P → OnErr r P
on_err (Ok x) P p = tt
on_err (Err e) P p = p

-- a step that fails, and what would come after it
pub fails_first : {A B : Type 0} (e : LdifFault) (read : Result A Fault) (next : A → Result B Fault) → Fails e read
    → Fails e (read >>= next)
fails_first faults.Memory read next h = tt
fails_first (faults.Bad n k) read next h = ap (λ r. r >>= next) h

-- the same reading, by another name
pub fails_by : {A : Type 0} (e : LdifFault) (read other : Result A Fault) → other ≡ read → Fails e read → Fails e other
fails_by faults.Memory read other same h = tt
fails_by (faults.Bad n k) read other same h = same ∙ h
