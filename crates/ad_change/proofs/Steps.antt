-- One step more of a loop that puts what comes of each element at the end.
use Rattle.std.proofs.Common.{◌≡◌, ℕ, ◌+◌, ◌<◌, ◌≤◌, Bool, true, false, List, [], ◌∷◌, ◌++◌, length, get_or, drop}
use Rattle.std.proofs.Common.{cond, refl, sym, ap, ◌∙◌}
use Rattle.std.specs.Prelude.{filter, filter_map}
use Rattle.std.specs.List.{cons_option}
use Rattle.std.specs.Prelude.{Option, Some, None}
use Rattle.std.proofs.lemmas.List.{append_assoc, append-nil, at_drop_more, at_drop_all}

pub goes_on : {A B : Type 0} (g : List A → List B) → ((x : A) (xs : List A) → g (x ∷ xs) ≡ g (x ∷ []) ++ g xs)
    → (xs : List A) (i : ℕ) (x : A)
    (old new whole : List B) → i < length xs → x ≡ get_or xs i x → new ≡ old ++ g (x ∷ []) → old ++ g (drop i xs)
    ≡ whole
    → new ++ g (drop (i + 1) xs) ≡ whole
goes_on g joins xs i x old new whole less is made so_far =
    ap (λ (ys : List _). ys ++ g (drop (i + 1) xs)) made
    ∙ append_assoc old (g (x ∷ [])) (g (drop (i + 1) xs))
    ∙ ap (λ (ys : List _). old ++ ys) (sym (joins x (drop (i + 1) xs)) ∙ ap (λ (y : _). g (y ∷ drop (i + 1) xs)) is
    ∙ sym (at_drop_more g xs i x less))
    ∙ so_far

pub comes_to_end : {A B : Type 0} (g : List A → List B) → g [] ≡ [] → (xs : List A) (i : ℕ) (old whole : List B)
    → length xs ≤ i
    → old ++ g (drop i xs) ≡ whole → old ≡ whole
comes_to_end g none xs i old whole past so_far =
    sym (append-nil old) ∙ ap (λ (ys : List _). old ++ ys) (sym none ∙ sym (at_drop_all g xs i past)) ∙ so_far

-- ---- the lists that are made so

pub filter_joins : {A : Type 0} (p : A → Bool) (x : A) (xs : List A) → filter p (x ∷ xs) ≡ filter p (x ∷ [])
    ++ filter p xs
filter_joins p x xs = by_test (p x)
  where
    by_test : (b : Bool) → cond b (x ∷ filter p xs) (filter p xs) ≡ cond b (x ∷ []) [] ++ filter p xs
    by_test true = refl
    by_test false = refl

pub filter_map_joins : {A B : Type 0} (f : A → Option B) (x : A) (xs : List A) → filter_map f (x ∷ xs)
    ≡ filter_map f (x ∷ []) ++ filter_map f xs
filter_map_joins f x xs = by_found (f x)
  where
    by_found : (o : Option _) → cons_option o (filter_map f xs) ≡ cons_option o [] ++ filter_map f xs
    by_found None = refl
    by_found (Some y) = refl
