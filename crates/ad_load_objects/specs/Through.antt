-- Items one after the other, each of which changes what there is, up to the first fault.
use Rattle.std.specs.Prelude.{List, [], ◌∷◌, Result, Ok}
use Rattle.ad_bytes.specs.Reading.{◌>>=◌}

unfoldable pub through : {S X E : Type 0} → (S → X → Result S E) → S → List X → Result S E
through step s [] = Ok s
through step s (x ∷ xs) = step s x >>= λ next. through step next xs
