-- The bytes of a row, in one way.
use Rattle.std.specs.Prelude.{ℕ, List, ◌∷◌, ◌++◌, length}
use Rattle.ad_bytes.specs.Numbers.{be_bytes}

abbrev pub put_text : ℕ → ℕ → List ℕ → List ℕ
put_text kind number body = 1 ∷ kind ∷ be_bytes 8 number ++ be_bytes 8 (length body) ++ body

abbrev pub removal_text : ℕ → ℕ → List ℕ
removal_text kind number = 2 ∷ kind ∷ be_bytes 8 number
