-- A word, and a part that ends with a character, at the beginning of a text.
use Rattle.std.proofs.Common.{Bool, eqb, true, false, ◌≡◌, ℕ, List, [], ◌∷◌, ◌++◌, drop, Ok, refl, sym, ap, ◌∙◌, arith}
use Rattle.std.specs.Prelude.{◌&&◌}
use Rattle.std.proofs.lemmas.Bool.{eqb-true}
use Rattle.ad_bytes.specs.Numbers.{byte_at}
use Rattle.ad_bytes.proofs.Steps.{from_need, from_ok, both_true}
use Rattle.ad_sddl.specs.declared.fault.SddlKind.TheVariants as kind
use Rattle.ad_sddl.specs.declared.fault.ParseError.{ParseError}
use Rattle.ad_sddl.specs.Words.{begins}
use Rattle.ad_sddl.specs.Reading.{stop, end_at}

-- ---- words

-- a text that begins with one character
pub begins_one : (w : ℕ) (bytes : List ℕ) → begins (w ∷ []) bytes ≡ true → bytes ≡ w ∷ drop 1 bytes
unfolding begins
begins_one w [] e = absurd cc
begins_one w (b ∷ bytes) e = ap (λ (x : ℕ). x ∷ bytes) (sym (eqb-true w b (both_true (eqb w b) true e).0))

short : (t : Bool) → t && false ≡ true → ⊥
short true e = absurd cc
short false e = absurd cc

pub begins_two : (v w : ℕ) (bytes : List ℕ) → begins (v ∷ w ∷ []) bytes ≡ true → bytes ≡ v ∷ w ∷ drop 2 bytes
unfolding begins
begins_two v w [] e = absurd cc
begins_two v w (a ∷ []) e = absurd (short (eqb v a) e)
begins_two v w (a ∷ b ∷ bytes) e =
    let first = both_true (eqb v a) (eqb w b && true) e in
    let second = both_true (eqb w b) true first.1 in
    ap (λ (x : ℕ). x ∷ b ∷ bytes) (sym (eqb-true v a first.0)) ∙ ap (λ (x : ℕ). v ∷ x ∷ bytes)
    (sym (eqb-true w b second.0))

-- the first characters alone decide
pub begins_head : (w : ℕ) (a b : List ℕ) (x : ℕ) → begins (w ∷ []) (x ∷ a) ≡ begins (w ∷ []) (x ∷ b)
unfolding begins
begins_head w a b x = refl

-- ---- the end of a field

-- a part encoded before the character that ends it
pub record TakesField {A : Type 0} (end : ℕ) (Spells : A → List ℕ → Type 0) (bytes : List ℕ) (value : A)
    (rest : List ℕ) : Type 0 where
  pub text : List ℕ
  pub parts : bytes ≡ text ++ end ∷ rest
  pub spelled : Spells value text

pub end_takes : (end : ℕ) (bytes : List ℕ) (u : Unit {0}) (rest : List ℕ) → end_at end bytes ≡ Ok (u, rest) → bytes
    ≡ end ∷ rest
unfolding end_at byte_at
end_takes end [] u rest e = absurd cc
end_takes end (b ∷ bytes) u rest e =
    from_need (eqb b end) (stop kind.Shape (b ∷ bytes)) _ (u, rest) e
    (λ (is : eqb b end ≡ true) (e2 : Ok (tt, bytes) ≡ Ok (u, rest)).
    let same : (tt, bytes) ≡ (u, rest) = from_ok {E = ParseError} (tt, bytes) (u, rest) e2 in
    ap (λ (x : ℕ). x ∷ bytes) (eqb-true b end is) ∙ ap (λ (p : Unit {0} × List ℕ). end ∷ p.1) same)

eqb-refl : (n : ℕ) → eqb n n ≡ true
eqb-refl n = grind (arith)

pub end_again : (end : ℕ) (rest : List ℕ) → end_at end (end ∷ rest) ≡ Ok (tt, rest)
unfolding end_at byte_at
end_again end rest = rw (eqb-refl end) refl
