-- Values one after the other, each beside the keys of those before it.
use Rattle.std.proofs.Common.{◌≡◌, ℕ, suc, ◌+◌, ◌<◌, ◌≤◌, Bool, true, false, not, List, [], ◌∷◌, length, get_or, drop}
use Rattle.std.proofs.Common.{drop-cons, add-one, refl, sym, ap, ◌∙◌}
use Rattle.std.specs.Prelude.{◌||◌}
use Rattle.std.specs.List.{list_any}
use Rattle.std.proofs.lemmas.Bool.{false≢true}
use Rattle.std.proofs.lemmas.List.{drop_all}
use Rattle.ad_value.specs.Value.{Value, same_key}
use Rattle.ad_change_values.specs.declared.keys.StoredKey.{StoredKey}
use Rattle.ad_change_values.specs.declared.keys.StoredKey.TheVariants as by
use Rattle.ad_change_values.specs.StoredKeys.{same_by, tied}
use Rattle.ad_change_values.specs.Values.{are_repeated}

-- a key that is new among keys, or isn't
pub was_old : (among new : Bool) → new ≡ not among → new ≡ false → among ≡ true
was_old true new is old = refl
was_old false new is old = absurd (false≢true (sym old ∙ is))

pub was_new : (among new : Bool) → new ≡ not among → new ≡ true → among ≡ false
was_new true new is so = absurd (false≢true (sym is ∙ so))
was_new false new is so = refl

-- one of the values from a place on has a key among these, or that of a later one
abbrev pub comes_again : (StoredKey → Bool) → List Value → Bool
comes_again among values = list_any (λ (v : Value). among (by.Plain v.key)) values || are_repeated values

turned : (a b c : Bool) → (a || (b || c)) ≡ ((b || a) || c)
turned true true c = refl
turned true false c = refl
turned false true c = refl
turned false false c = refl

turned_in : (a b c d : Bool) → ((a || c) || (b || d)) ≡ ((a || b) || (c || d))
turned_in true b c d = refl
turned_in false true true d = refl
turned_in false false true d = refl
turned_in false true false d = refl
turned_in false false false d = refl

any_both : (p q : Value → Bool) (xs : List Value) → list_any (λ v. p v || q v) xs ≡ (list_any p xs || list_any q xs)
any_both p q [] = refl
any_both p q (x ∷ xs) = ap (λ (b : Bool). (p x || q x) || b) (any_both p q xs) ∙ turned_in (p x) (list_any p xs) (q x)
    (list_any q xs)

any_same : (p q : Value → Bool) (xs : List Value) → ((v : Value) → p v ≡ q v) → list_any p xs ≡ list_any q xs
any_same p q [] is = refl
any_same p q (x ∷ xs) is = ap (λ (b : Bool). b || list_any p xs) (is x) ∙ ap (λ (b : Bool). q x || b)
    (any_same p q xs is)

cut : (xs : List Value) (i : ℕ) (x : Value) → i < length xs → x ≡ get_or xs i x → drop i xs ≡ x ∷ drop (i + 1) xs
cut xs i x lt is = drop-cons xs i x lt ∙ ap (λ y. y ∷ drop (suc i) xs) (sym is) ∙ ap (λ n. x ∷ drop n xs)
    (sym (add-one i))

pub none_yet : (among : StoredKey → Bool) (read : List Value) → ((k : StoredKey) → among k ≡ false)
    → are_repeated read ≡ comes_again among read
none_yet among read none = sym (ap (λ (b : Bool). b || are_repeated read) (no_one read))
  where
    no_one : (xs : List Value) → list_any (λ (v : Value). among (by.Plain v.key)) xs ≡ false
    no_one [] = refl
    no_one (x ∷ xs) = ap (λ (b : Bool). b || list_any (λ (v : Value). among (by.Plain v.key)) xs)
        (none (by.Plain x.key)) ∙ no_one xs

pub one_more : (f g : StoredKey → Bool) (k : StoredKey) (read : List Value) (i : ℕ) (x : Value) → i < length read → x
    ≡ get_or read i x
    → k ≡ by.Plain x.key → f k ≡ false → ((o : StoredKey) → g o ≡ (same_by k o || f o))
    → are_repeated read ≡ comes_again f (drop i read) → are_repeated read ≡ comes_again g (drop (i + 1) read)
unfolding are_repeated
one_more f g k read i x lt at is new puts before =
    let rest : List Value = drop (i + 1) read in
    let p : Value → Bool = λ v. f (by.Plain v.key) in
    let s : Value → Bool = λ v. same_key x.key v.key in
    let more : list_any (λ (v : Value). g (by.Plain v.key)) rest ≡ (list_any s rest || list_any p rest)
    = any_same (λ v. g (by.Plain v.key)) (λ v. s v || p v) rest
    (λ v. puts (by.Plain v.key) ∙ ap (λ (q : StoredKey). same_by q (by.Plain v.key) || f (by.Plain v.key)) is
    ∙ ap (λ (b : Bool). b || f (by.Plain v.key)) (tied x.key v.key))
    ∙ any_both s p rest in
    before ∙ ap (comes_again f) (cut read i x lt at)
    ∙ ap (λ (b : Bool). (b || list_any p rest) || (list_any s rest || are_repeated rest)) (sym (ap f is) ∙ new)
    ∙ turned (list_any p rest) (list_any s rest) (are_repeated rest)
    ∙ sym (ap (λ (b : Bool). b || are_repeated rest) more)

pub one_found : (f : StoredKey → Bool) (k : StoredKey) (read : List Value) (i : ℕ) (x : Value) → i < length read → x
    ≡ get_or read i x
    → k ≡ by.Plain x.key → f k ≡ true → are_repeated read ≡ comes_again f (drop i read) → true ≡ are_repeated read
one_found f k read i x lt at is old before =
    sym (before ∙ ap (comes_again f) (cut read i x lt at)
    ∙ ap (λ (b : Bool). (b || list_any (λ (v : Value). f (by.Plain v.key)) (drop (i + 1) read))
    || are_repeated (x ∷ drop (i + 1) read)) (sym (ap f is) ∙ old))

pub none_found : (f : StoredKey → Bool) (read : List Value) (i : ℕ) → length read ≤ i → are_repeated read
    ≡ comes_again f (drop i read) → false ≡ are_repeated read
unfolding are_repeated
none_found f read i le before = sym (before ∙ ap (comes_again f) (drop_all i read le))
