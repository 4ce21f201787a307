-- Rows of flags that are set.
use Rattle.std.proofs.Common.{◌≡◌, ℕ, zero, suc, ◌+◌, ◌-◌, ◌<◌, ◌≤◌, Bool, true, false, ◌||◌, ◌&&◌, ◌==◌, List, []}
use Rattle.std.proofs.Common.{◌∷◌, ◌++◌, length, map, drop, get_or, refl, sym, ap, ◌∙◌, add-one, arith}
use Rattle.std.proofs.lemmas.List.{at_drop_all, length-map}
use Rattle.ad_schema_classes.specs.Chains.{contains, listed, grown, set_of}
use Rattle.ad_schema_classes.specs.Flags.{flag_at}
use Rattle.ad_schema_classes.specs.declared.links.ClassLinks.{ClassLinks}
use Rattle.ad_schema_classes.specs.declared.rows.ClassRows.{ClassRows}
use Rattle.ad_schema_classes.specs.declared.links.Part.TheVariants.{Must, May}
use Rattle.ad_schema_classes.specs.Rows.{nexts, part_of, listed_must, listed_may, naming_in, AreRowsOf}

pub mapped_at : {A B : Type 0} (f : A → B) (xs : List A) (i : ℕ) (x : A) → i < length xs → x ≡ get_or xs i x
    → drop i (map f xs) ≡ f x ∷ drop (i + 1) (map f xs)
mapped_at f xs i x lt is = rw add-one (by_place f xs i x lt is)
  where
    by_place : {A B : Type 0} (f : A → B) (xs : List A) (i : ℕ) (x : A) → i < length xs → x ≡ get_or xs i x
        → drop i (map f xs) ≡ f x ∷ drop (suc i) (map f xs)
    by_place f [] i x lt is = absurd (omega arith)
    by_place f (y ∷ ys) zero x lt is = ap (λ (z : _). f z ∷ map f ys) (sym is)
    by_place f (y ∷ ys) (suc i) x lt is = by_place f ys i x (omega arith) is

-- what is marked so far, and here, or by the rest, is what is marked by all
pub marked : (old new here rest step whole : Bool) → new ≡ old || here → step ≡ here || rest → old || step ≡ whole
    → new || rest ≡ whole
marked true new here rest step whole is splits so_far = rw is so_far
marked false new here rest step whole is splits so_far = rw is (sym splits ∙ so_far)

pub or_false : (flag rest whole : Bool) → flag || rest ≡ whole → rest ≡ false → flag ≡ whole
or_false true rest whole e none = e
or_false false rest whole e none = sym none ∙ e

pub listed_at : {A : Type 0} (f : A → List ℕ) (set : ℕ → Bool) (links : List A) (n j : ℕ) (link : A) → n
    < length links → link ≡ get_or links n link
    → listed set n (drop n (map f links)) j ≡ (set n && contains (f link) j)
    || listed set (n + 1) (drop (n + 1) (map f links)) j
unfolding listed
listed_at f set links n j link lt is = rw (mapped_at f links n link lt is) refl

pub listed_end : {A : Type 0} (f : A → List ℕ) (set : ℕ → Bool) (links : List A) (n j : ℕ) → length links ≤ n
    → listed set n (drop n (map f links)) j ≡ false
unfolding listed
listed_end f set links n j le =
    let past = at_drop_all (λ ls. ls) (map f links) n (omega (arith, length-map links f)) in
    rw past refl

-- only the classes of the lists are asked for
pub listed_same : (s t : ℕ → Bool) (n : ℕ) (lists : List (List ℕ)) (j : ℕ)
    → ((m : ℕ) → n ≤ m → m < n + length lists → s m ≡ t m) → listed s n lists j ≡ listed t n lists j
unfolding listed
listed_same s t n [] j same = refl
listed_same s t n (list ∷ lists) j same =
    let here : s n ≡ t n = same n (omega arith) (omega arith) in
    rw (here, listed_same s t (n + 1) lists j (λ m low high. same m (omega arith) (omega arith))) refl

pub grown_same : (next : List (List ℕ)) (s t : ℕ → Bool) (j : ℕ) → j < length next
    → ((m : ℕ) → m < length next → s m ≡ t m) → grown next s j ≡ grown next t j
unfolding grown
grown_same next s t j lt same = rw (same j lt, listed_same s t 0 next j (λ m low high. same m (omega arith))) refl

-- ---- blank rows

pub blank_none : (j : ℕ) → flag_at [] j ≡ false
unfolding flag_at
blank_none j = refl

pub blank_push : (row : List Bool) → ((j : ℕ) → flag_at row j ≡ false) → (j : ℕ) → flag_at (row ++ false ∷ []) j ≡ false
unfolding flag_at
blank_push [] blank zero = refl
blank_push [] blank (suc j) = refl
blank_push (x ∷ row) blank zero = blank 0
blank_push (x ∷ row) blank (suc j) = blank_push row (λ k. blank (suc k)) j

-- ---- the rows of a class

-- what is listed by the classes of a row is what is listed by those of the set that it shows
listed_by : (f : ClassLinks → List ℕ) (links : List ClassLinks) (class attr : ℕ) (set seen : List Bool) → seen ≡ set
    → ((j : ℕ) → j < length links → flag_at set j ≡ set_of (nexts links) class j)
    → listed (flag_at seen) 0 (map f links) attr ≡ listed (set_of (nexts links) class) 0 (map f links) attr
listed_by f links class attr set seen is same =
    ap (λ (row : List Bool). listed (flag_at row) 0 (map f links) attr) is
    ∙ listed_same (flag_at set) (set_of (nexts links) class) 0 (map f links) attr
    (λ m low high. same m (omega (arith, length-map links f)))

pub rows_are : (links : List ClassLinks) (cn attrs class naming : ℕ) (set seen again given : List Bool)
    (rows : ClassRows) → seen ≡ set → again ≡ set → given ≡ rows.must.items
    → ((j : ℕ) → j < length links → flag_at set j ≡ set_of (nexts links) class j)
    → ((j : ℕ) → j < attrs → flag_at rows.must.items j ≡ listed (flag_at seen) 0 (map (part_of Must) links) j)
    → ((j : ℕ) → j < attrs → flag_at rows.allowed.items j
    ≡ (flag_at given j || listed (flag_at again) 0 (map (part_of May) links) j || naming == j))
    → naming ≡ naming_in links cn class → AreRowsOf links cn attrs class rows
rows_are links cn attrs class naming set seen again given rows one two three same must allowed is = record {
  must = λ attr lt. must attr lt ∙ listed_by (part_of Must) links class attr set seen one same;
  allowed = λ attr lt.
      allowed attr lt
      ∙ ap (λ (b : Bool). b || listed (flag_at again) 0 (map (part_of May) links) attr || naming == attr)
      (ap (λ (row : List Bool). flag_at row attr) three ∙ must attr lt ∙ listed_by (part_of Must) links class attr set
      seen one same)
      ∙ ap (λ (b : Bool). listed_must links class attr || b || naming == attr)
      (listed_by (part_of May) links class attr set again two same)
      ∙ ap (λ (n : ℕ). listed_must links class attr || listed_may links class attr || n == attr) is;
}
