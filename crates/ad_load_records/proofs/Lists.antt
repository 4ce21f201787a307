-- Lists, from an item on.
use Rattle.std.proofs.Common.{◌≡◌, ℕ, suc, ◌+◌, ◌<◌, List, ◌∷◌, length, get_or, drop, drop-cons, add-one, sym, ap, ◌∙◌}

pub cut : {A : Type 0} (xs : List A) (i : ℕ) (x : A) → i < length xs → get_or xs i x ≡ x → drop i xs ≡ x
    ∷ drop (i + 1) xs
cut xs i x lt is = drop-cons xs i x lt ∙ ap (λ y. y ∷ drop (suc i) xs) is ∙ ap (λ n. x ∷ drop n xs) (sym (add-one i))
