-- Only for private contracts, invariants and proofs: a table of how often texts stand in a list.
use Rattle.std.specs.Prelude.{◌≡◌, ℕ, List, ◌∷◌, ◌++◌, Vec, unwrap_or, if◌then◌else◌}
use Rattle.std.specs.Borrow.{Bor}
use Rattle.std.specs.Str.{bytes_eq}
use Rattle.std.specs.declared.alloc.Global.{Global}
use Rattle.indexmap.specs.IndexMap.{IndexMap, get_by}
use Rattle.ad_causes.specs.Extra.{texts, count_of, extra}

-- how often a text is noted
abbrev pub counted : {S : Type 0} → IndexMap (Bor (List ℕ)) ℕ S → List ℕ → ℕ
counted table text = unwrap_or (get_by (λ key. bytes_eq text key.now) table) 0

-- the text is noted so often, and each other as before
abbrev pub IsNoted : {S : Type 0} → IndexMap (Bor (List ℕ)) ℕ S → IndexMap (Bor (List ℕ)) ℕ S → List ℕ → ℕ → Type 0
IsNoted old new text count = (other : List ℕ) → counted new other
    ≡ (if bytes_eq text other then count else counted old other)

-- each text is noted as often as it stands in the list
abbrev pub AreCounts : {S : Type 0} → List (List ℕ) → IndexMap (Bor (List ℕ)) ℕ S → Type 0
AreCounts all table = (text : List ℕ) → counted table text ≡ count_of all text

-- Whatever is noted: with one more text of the first list, what is found goes on by what is left.
abbrev pub IsKept : {S : Type 0} → IndexMap (Bor (List ℕ)) ℕ S → IndexMap (Bor (List ℕ)) ℕ S
    → List (Vec ℕ Global) → List (Vec ℕ Global) → List ℕ → Type 0
IsKept old new found found_new text = (others : List (List ℕ)) → AreCounts others old
    → (left : List (List ℕ)) × AreCounts left new × ((more : List (List ℕ)) → texts found ++ extra (text ∷ more) others
    ≡ texts found_new ++ extra more left)

-- What was found of the first list so far goes on by what is left of the second.
abbrev pub IsFinding : {S : Type 0} → List (List ℕ) → List (List ℕ) → IndexMap (Bor (List ℕ)) ℕ S
    → List (Vec ℕ Global) → List (List ℕ) → Type 0
IsFinding all others table found more = (left : List (List ℕ)) × AreCounts left table
    × (extra all others ≡ texts found ++ extra more left)
