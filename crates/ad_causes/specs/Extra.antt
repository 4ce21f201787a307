-- What one list of texts has more often than another.
use Rattle.std.specs.Prelude.{ℕ, Bool, true, false, List, [], ◌∷◌, Vec, map, filter, length, if◌then◌else◌}
use Rattle.std.specs.List.{list_any}
use Rattle.std.specs.Str.{bytes_eq}
use Rattle.std.specs.declared.alloc.Global.{Global}

-- the texts of a list
abbrev pub texts : List (Vec ℕ Global) → List (List ℕ)
texts all = map (λ (text : Vec ℕ Global). text.items) all

-- the text is among these
abbrev pub has_text : List (List ℕ) → List ℕ → Bool
has_text all text = list_any (bytes_eq text) all

-- these without the first that is this text
abbrev pub taken : List ℕ → List (List ℕ) → List (List ℕ)
taken text [] = []
taken text (other ∷ others) = if bytes_eq text other then others else other ∷ taken text others

-- Those of the first list, each of which is taken out of the second one where it is there, and else is one more.
unfoldable pub extra : List (List ℕ) → List (List ℕ) → List (List ℕ)
extra [] others = []
extra (text ∷ all) others = if has_text others text then extra all (taken text others) else text ∷ extra all others

-- how often the text is among these
abbrev pub count_of : List (List ℕ) → List ℕ → ℕ
count_of all text = length (filter (bytes_eq text) all)

-- there are none
abbrev pub is_none : List (List ℕ) → Bool
is_none [] = true
is_none (text ∷ all) = false
