-- When names are the same.
use Rattle.std.proofs.Common.{Bool, ◌≡◌, ◌↔◌, ℕ, zero, suc, ◌<◌, IsTrue, List, [], ◌∷◌, length, get_or, refl, sym, ap}
use Rattle.std.proofs.Common.{subst, arith}
use Rattle.std.specs.Prelude.{chars, encode_utf8_all}
use Rattle.std.proofs.lemmas.Str.{encodes_same}
use Rattle.caseless.specs.Caseless.{default_case_fold}
use Rattle.ad_dn.specs.declared.rdn.Rdn.{Rdn}
use Rattle.ad_dn.specs.Fold.{folded, IsSameRdn, AreSameRdns}

abbrev Match : List ℕ → List ℕ → Type 0
Match a b = default_case_fold (chars a) ≡ default_case_fold (chars b)

to_folded : (a b : List ℕ) → Match a b → folded a ≡ folded b
unfolding folded
to_folded a b e = ap encode_utf8_all e

from_folded : (a b : List ℕ) → folded a ≡ folded b → Match a b
unfolding folded
from_folded a b e = encodes_same (default_case_fold (chars a)) (default_case_fold (chars b)) e

-- characters match after folding exactly where their bytes are the same then
pub match_folded : (r : Bool) (a b x y : List ℕ) → x ≡ a → y ≡ b
    → (IsTrue r ↔ (default_case_fold (chars x) ≡ default_case_fold (chars y))) → IsTrue r ↔ (folded a ≡ folded b)
match_folded r a b x y p q h = (
  λ t. to_folded a b (subst (λ (v : List ℕ). Match v b) p (subst (Match x) q (h.0 t))),
  λ e. h.1 (subst (λ (v : List ℕ). Match v y) (sym p) (subst (Match a) (sym q) (from_folded a b e))),
)

pub same_lengths : (a b : List Rdn) → AreSameRdns a b → length a ≡ length b
same_lengths [] [] h = refl
same_lengths [] (y ∷ b) h = absurd h
same_lengths (x ∷ a) [] h = absurd h
same_lengths (x ∷ a) (y ∷ b) h = ap suc (same_lengths a b h.1)

-- names that are the same are so at each place
pub same_at : (i : ℕ) (a b : List Rdn) (x y : Rdn) → AreSameRdns a b → i < length a → x ≡ get_or a i x → y
    ≡ get_or b i y → IsSameRdn x y
same_at i [] [] x y h lt p q = absurd (omega (arith, lt))
same_at i [] (v ∷ b) x y h lt p q = absurd h
same_at i (u ∷ a) [] x y h lt p q = absurd h
same_at zero (u ∷ a) (v ∷ b) x y h lt p q = subst (λ (r : Rdn). IsSameRdn r y) (sym p) (subst (IsSameRdn u) (sym q) h.0)
same_at (suc i) (u ∷ a) (v ∷ b) x y h lt p q = same_at i a b x y h.1 (omega (arith, lt)) p q
