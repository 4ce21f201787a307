-- What writes at a place of a list do to the tokens of connections.
use Rattle.std.proofs.Common.{◌≡◌, ℕ, zero, suc, ◌-◌, ◌<◌, ◌≤◌, List, [], ◌∷◌, ◌++◌, length, set, replicate, Option}
use Rattle.std.proofs.Common.{Some, None, refl, ap, subst, arith}
use Rattle.std.proofs.lemmas.List.{append-nil}
use Rattle.ad_ids.specs.declared.token.Token.{Token}
use Rattle.ad_engine_store.specs.Tokens.{with_token, without_token}

put_behind : (n : ℕ) (token : Token) → set (replicate (suc n) None) n (Some token) ≡ with_token n token []
unfolding with_token
put_behind zero token = refl
put_behind (suc n) token = ap (λ (ts : List (Option Token)). None ∷ ts) (put_behind n token)

-- a token put at a place, where as many as were missing up to there were put at the end
pub put_at : (n k : ℕ) (token : Token) (ts : List (Option Token)) → k ≡ suc n - length ts
    → set (ts ++ replicate k None) n (Some token) ≡ with_token n token ts
unfolding with_token
put_at n k token [] is =
    let all : suc n ≡ k = omega (arith, is) in
    subst (λ (m : ℕ). set (replicate m None) n (Some token) ≡ with_token n token []) all (put_behind n token)
put_at zero k token (x ∷ xs) is =
    let none : 0 ≡ k = omega (arith, is) in
    subst (λ (m : ℕ). set ((x ∷ xs) ++ replicate m None) 0 (Some token) ≡ with_token 0 token (x ∷ xs)) none
    (ap (λ (ts : List (Option Token)). Some token ∷ ts) (append-nil xs))
put_at (suc n) k token (x ∷ xs) is =
    let same : k ≡ suc n - length xs = omega (arith, is) in
    ap (λ (ts : List (Option Token)). x ∷ ts) (put_at n k token xs same)

pub cleared : (n : ℕ) (ts : List (Option Token)) → n < length ts → set ts n None ≡ without_token n ts
unfolding without_token
cleared n [] less = absurd (omega (arith, less))
cleared zero (x ∷ xs) less = refl
cleared (suc n) (x ∷ xs) less = ap (λ (ts : List (Option Token)). x ∷ ts) (cleared n xs (omega (arith, less)))

pub none_there : (n : ℕ) (ts : List (Option Token)) → length ts ≤ n → ts ≡ without_token n ts
unfolding without_token
none_there n [] past = refl
none_there zero (x ∷ xs) past = absurd (omega (arith, past))
none_there (suc n) (x ∷ xs) past = ap (λ (ts : List (Option Token)). x ∷ ts) (none_there n xs (omega (arith, past)))
