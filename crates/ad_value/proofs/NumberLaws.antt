-- What the library reads of a number that is written in decimal.
use Rattle.std.proofs.Common.{◌≡◌, ℕ, ℤ, List, Result, Ok, Err, FitsSigned, sym}
use Rattle.std.specs.Int.{w64}
use Rattle.std.specs.Fmt.{signed_decimal}
use Rattle.std.specs.Str.Parse.{ParsesSigned}
use Rattle.std.proofs.lemmas.Fmt.{parse-signed_decimal}
use Rattle.ad_value.proofs.Results.{ok_same, ok_no_err}

-- the number that is read of a written one is that
pub parsed_same : {E : Type 0} (n m : ℤ) (text : List ℕ) (r : Result ℤ E) → r ≡ Ok m → FitsSigned w64 n → text
    ≡ signed_decimal n → ParsesSigned w64 10 text r → n ≡ m
parsed_same n m text r e fits spelled parsed
    = sym (ok_same r m n e (parse-signed_decimal w64 n text r fits fits.sfits spelled parsed))

-- and one is read
pub parsed_none : {E : Type 0} (n : ℤ) (f : E) (text : List ℕ) (r : Result ℤ E) → r ≡ Err f → FitsSigned w64 n → text
    ≡ signed_decimal n → ParsesSigned w64 10 text r → ⊥
parsed_none n f text r e fits spelled parsed
    = ok_no_err r n f e (parse-signed_decimal w64 n text r fits fits.sfits spelled parsed)
