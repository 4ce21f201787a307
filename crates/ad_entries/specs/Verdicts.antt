-- What was judged of attributes by their places, where it was.
use Rattle.std.specs.Prelude.{◌≡◌, ℕ, Bool, Option, None, List, slice_index_or, IfSome}
use Rattle.ad_ids.specs.declared.token.Token.{Token}
use Rattle.ad_dir_model.specs.Directory.{Directory}
use Rattle.ad_entries.specs.declared.kinds.Kind.{Kind}
use Rattle.ad_entries.specs.Kinds.{IsOf}
use Rattle.ad_entries.specs.Places.{is_readable_at}

-- what was judged is so
abbrev pub AreTrue : (ℕ → Bool) → List (Option Bool) → Type 0
AreTrue truth verdicts = (place : ℕ) → IfSome (slice_index_or verdicts place None) (λ so. so ≡ truth place)

-- It is so of each object of the kind.
abbrev pub KnowsOf : Directory → Token → Kind → List (Option Bool) → Type 0
KnowsOf dir token kind verdicts = (number : ℕ) → IsOf dir token kind number
    → AreTrue (is_readable_at dir token number) verdicts
