-- Numbers that are read.
use Rattle.std.proofs.Common.{◌≡◌, ℕ, ◌+◌, ◌*◌, ◌-◌, ◌<◌, ◌≤◌, ◌↔◌, Bool, true, false, List, [], ◌∷◌, map, length}
use Rattle.std.proofs.Common.{get_or, drop, arith, refl, Option, Some, None, IfSome, ltb, if◌then◌else◌, ◌∙◌, ap, sym}
use Rattle.std.proofs.Common.{unwrap_or}
use Rattle.std.specs.Char.{is_ascii_digit}
use Rattle.std.specs.Option.{option_and_then}
use Rattle.std.proofs.lemmas.Bool.Decides.{nat_tests}
use Rattle.std.proofs.lemmas.List.{at_drop_more}
use Rattle.ad_schema.specs.Numbers.{if_below, digits_behind}

-- ---- digits, below a limit

pub digits_at : (limit n : ℕ) (text : List ℕ) (i : ℕ) → i < length text
    → option_and_then (if_below limit) (digits_behind n (drop i text)) ≡ option_and_then (if_below limit)
    (if is_ascii_digit (get_or text i 0) then digits_behind (n * 10 + (get_or text i 0 - 48)) (drop (i + 1) text)
    else None)
unfolding digits_behind
digits_at limit n text i lt = at_drop_more (λ t. option_and_then (if_below limit) (digits_behind n t)) text i 0 lt

-- a digit more
pub digits_more : (limit n : ℕ) (text : List ℕ) (i : ℕ) → i < length text → is_ascii_digit (get_or text i 0) ≡ true
    → option_and_then (if_below limit) (digits_behind n (drop i text)) ≡ option_and_then (if_below limit)
    (digits_behind (n * 10 + (get_or text i 0 - 48)) (drop (i + 1) text))
digits_more limit n text i lt digit =
    digits_at limit n text i lt
    ∙ ap (λ (t : Bool). option_and_then (if_below limit)
    (if t then digits_behind (n * 10 + (get_or text i 0 - 48)) (drop (i + 1) text) else None)) digit

-- what is at the limit stays there
pub digits_past : (limit n : ℕ) (text : List ℕ) → limit ≤ n → option_and_then (if_below limit) (digits_behind n text)
    ≡ None
unfolding digits_behind
digits_past limit n [] le = let past : ltb n limit ≡ false = grind (arith, nat_tests) in rw past refl
digits_past limit n (b ∷ text) le = past_digit (is_ascii_digit b) limit (n * 10 + (b - 48)) text
    (digits_past limit (n * 10 + (b - 48)) text (omega arith))
  where
    past_digit : (digit : Bool) (limit n : ℕ) (text : List ℕ) → option_and_then (if_below limit)
        (digits_behind n text) ≡ None
        → option_and_then (if_below limit) (if digit then digits_behind n text else None) ≡ None
    past_digit true limit n text past = past
    past_digit false limit n text past = refl
