-- Hexadecimal digits one after the other.
use Rattle.std.proofs.Common.{◌≡◌, ℕ, zero, suc, ◌-◌, ◌/◌, ◌%◌, if◌then◌else◌, Result, Ok, Err, OnOk, is_ok, List, []}
use Rattle.std.proofs.Common.{◌∷◌, ◌++◌, refl, ap, ◌∙◌, append_assoc, arith}
use Rattle.ad_ids.specs.SidText.{hex_digit, hex_digits}

-- one digit after those of a sixteenth
pub hex_more : (count n : ℕ) (old text : List ℕ) → (count ≡ 0 → ⊥) → text ≡ old ++ hex_digits (count - 1) (n / 16)
    → text ++ hex_digit (n % 16) ∷ [] ≡ old ++ hex_digits count n
unfolding hex_digits
hex_more zero n old text some so_far = absurd (some refl)
hex_more (suc k) n old text some so_far =
    let fewer : suc k - 1 ≡ k = omega arith in
    ap (λ (t : List ℕ). t ++ hex_digit (n % 16) ∷ []) (so_far ∙ ap (λ (i : ℕ). old ++ hex_digits i (n / 16)) fewer)
    ∙ append_assoc old (hex_digits k (n / 16)) (hex_digit (n % 16) ∷ [])

-- what is so wherever the call succeeded
pub where_ok : {T E : Type 0} (r : Result T E) (new more same goal : List ℕ) → new ≡ (if is_ok r then more else same)
    → more ≡ goal → OnOk r (new ≡ goal)
where_ok (Ok x) new more same goal e f = e ∙ f
where_ok (Err x) new more same goal e f = tt
