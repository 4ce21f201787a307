-- Records that were read, and what the rest of a text gives.
use Rattle.std.specs.Prelude.{List, ◌++◌, Result, Ok}
use Rattle.ad_bytes.specs.Reading.{◌>>=◌}

abbrev pub prefixed : {A E : Type 0} → List A → Result (List A) E → Result (List A) E
prefixed xs r = r >>= λ others. Ok (xs ++ others)
