-- Steps of a reader that did not fail: what each gave, and what follows from it.
pub use Rattle.std.proofs.lemmas.Bool.{and_parts as both_true}
use Rattle.std.proofs.Common.{◌≡◌, Bool, true, false, cond, Result, Ok, Err, refl}
use Rattle.ad_bytes.specs.Reading.{◌>>=◌, need, fault_as, or_fault}

-- what a step gave, and what follows from it
pub from_bind : {A B E P : Type 0} (r : Result A E) (f : A → Result B E) (y : B) → (r >>= f) ≡ Ok y
    → ((x : A) → r ≡ Ok x → f x ≡ Ok y → P) → P
from_bind (Ok x) f y e k = k x refl e
from_bind (Err d) f y e k = absurd cc

-- a test that held, and what follows from it
pub from_need : {B E P : Type 0} (b : Bool) (d : E) (f : Unit {0} → Result B E) (y : B) → (need b d >>= f) ≡ Ok y
    → (b ≡ true → f tt ≡ Ok y → P) → P
from_need true d f y e k = k refl e
from_need false d f y e k = absurd cc

-- a part that did not fail, under whatever name
pub from_fault_as : {A E F : Type 0} (name : E → F) (r : Result A E) (x : A) → fault_as name r ≡ Ok x → r ≡ Ok x
from_fault_as name (Ok y) x e = cc
from_fault_as name (Err d) x e = absurd cc

pub from_or_fault : {A E F : Type 0} (d : F) (r : Result A E) (x : A) → or_fault d r ≡ Ok x → r ≡ Ok x
from_or_fault d (Ok y) x e = cc
from_or_fault d (Err c) x e = absurd cc

abbrev ok_of : {A E : Type 0} → A → Result A E
ok_of x = Ok x

pub from_ok : {A E : Type 0} (x y : A) → ok_of {E = E} x ≡ ok_of y → x ≡ y
from_ok x y e = cc

-- a value after a test that did not fail
pub from_guard : {A E P : Type 0} (b : Bool) (d : E) (x y : A) → cond b (Err d) (Ok x) ≡ Ok y
    → (b ≡ false → x ≡ y → P) → P
from_guard true d x y e k = absurd cc
from_guard false d x y e k = k refl cc
