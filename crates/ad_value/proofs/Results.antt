-- A result is one value.
use Rattle.std.proofs.Common.{◌≡◌, Result, Ok, Err}

pub ok_same : {A E : Type 0} (r : Result A E) (a b : A) → r ≡ Ok a → r ≡ Ok b → a ≡ b
ok_same r a b e f = cc

pub ok_no_err : {A E : Type 0} (r : Result A E) (a : A) (f : E) → r ≡ Err f → r ≡ Ok a → ⊥
ok_no_err r a f e g = absurd cc
