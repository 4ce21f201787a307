-- What a chain of steps says that came to its end.
use Rattle.std.proofs.Common.{◌≡◌, Bool, true, false, Option, Some, None, Result, Ok, Err, refl}
use Rattle.std.specs.Prelude.{ok_or, not, ◌&&◌}
use Rattle.ad_bytes.specs.Reading.{◌>>=◌, need, or_fault}
use Rattle.ad_schema.specs.declared.fault.SchemaFault.{SchemaFault}
use Rattle.ad_load_records.specs.declared.fault.LoadFault.{LoadFault}

pub bind_ok : {A B E : Type 0} (r : Result A E) (f : A → Result B E) (y : B) → (r >>= f) ≡ Ok y → (x : A) × (r ≡ Ok x)
    × (f x ≡ Ok y)
bind_ok (Ok x) f y e = (x, refl, e)
bind_ok (Err g) f y e = absurd cc

pub need_ok : {B E : Type 0} (b : Bool) (g : E) (f : Unit {0} → Result B E) (y : B) → (need b g >>= f) ≡ Ok y
    → (b ≡ true) × (f tt ≡ Ok y)
need_ok true g f y e = (refl, e)
need_ok false g f y e = absurd cc

pub ok_or_ok : {A E : Type 0} (o : Option A) (g : E) (x : A) → ok_or o g ≡ Ok x → o ≡ Some x
ok_or_ok (Some a) g x e = cc
ok_or_ok None g x e = absurd cc

pub or_fault_ok : {A E F : Type 0} (r : Result A E) (g : F) (x : A) → or_fault g r ≡ Ok x → r ≡ Ok x
or_fault_ok (Ok a) g x e = cc
or_fault_ok (Err f) g x e = absurd cc

abbrev FaultsOf : Type 0 → Type 0
FaultsOf A = Result A LoadFault

pub load_is : {A : Type 0} (a b : A) → ◌≡◌ {A = FaultsOf A} (Ok a) (Ok b) → a ≡ b
load_is a b e = cc

abbrev SchemaFaultsOf : Type 0 → Type 0
SchemaFaultsOf A = Result A SchemaFault

pub schema_is : {A : Type 0} (a b : A) → ◌≡◌ {A = SchemaFaultsOf A} (Ok a) (Ok b) → a ≡ b
schema_is a b e = cc

pub not_true : (b : Bool) → not b ≡ true → b ≡ false
not_true true e = absurd cc
not_true false e = refl

pub and_true : (a b : Bool) → (a && b) ≡ true → (a ≡ true) × (b ≡ true)
and_true true b e = (refl, e)
and_true false b e = absurd cc

-- a look-up that gives nothing
pub none_from : {A : Type 0} (o : Option A) → ((x : A) → o ≡ Some x → ⊥) → None ≡ o
none_from None no_value = refl
none_from (Some x) no_value = absurd (no_value x refl)
