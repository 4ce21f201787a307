-- What an answer says.
use Rattle.std.proofs.Common.{◌≡◌, true, false, refl, Ok, Err, Result}
use Rattle.std.specs.Result.{OnOk, IsErr, is_err}

pub at_ok : {T E P : Type 0} (r : Result T E) → is_err r ≡ false → OnOk r P → P
at_ok (Ok x) is p = p
at_ok (Err e) is p = cc is

pub at_err : {T E : Type 0} (r : Result T E) → is_err r ≡ true → IsErr r
at_err (Ok x) is = cc is
at_err (Err e) is = refl
