-- Texts that are put one after the other.
use Rattle.std.proofs.Common.{◌≡◌, ◌∙◌, ℕ, zero, suc, ◌+◌, List, [], ◌++◌, refl, sym, ap, subst, append_assoc, arith}
use Rattle.std.proofs.lemmas.List.{append-nil}
use Rattle.ad_control.specs.Lines.{AreTexts}

-- one text more
texts_more : (IsText : ℕ → List ℕ → Type 0) (x n : ℕ) (text line : List ℕ) → AreTexts IsText x n text
    → IsText (x + n) line → AreTexts IsText x (suc n) (text ++ line)
texts_more IsText x zero text line are is = (
  line,
  [],
  subst (λ (k : ℕ). IsText k line) (omega arith) is,
  refl,
  ap (λ (front : List ℕ). front ++ line) are ∙ sym (append-nil line),
)
texts_more IsText x (suc n) text line are is =
    let more = texts_more IsText (x + 1) n are.1 line are.3 (subst (λ (k : ℕ). IsText k line) (omega arith) is) in (
      are.0,
      are.1 ++ line,
      are.2,
      more,
      ap (λ (front : List ℕ). front ++ line) are.4 ∙ append_assoc are.0 are.1 line,
    )

-- What stands so far: the texts of the first nodes.
pub record SoFar (IsText : ℕ → List ℕ → Type 0) (n : ℕ) (from now : List ℕ) : Type 0 where
  pub text : List ℕ
  pub put : now ≡ from ++ text
  pub are : AreTexts IsText 0 n text

pub nothing_yet : (IsText : ℕ → List ℕ → Type 0) (from : List ℕ) → SoFar IsText 0 from from
nothing_yet IsText from = record { text = []; put = sym (append-nil from); are = refl }

-- the text of one is put
abbrev pub IsPut : (ℕ → List ℕ → Type 0) → ℕ → List ℕ → List ℕ → Type 0
IsPut IsText x now next = (line : List ℕ) × (next ≡ now ++ line) × IsText x line

pub one_more : (IsText : ℕ → List ℕ → Type 0) (n : ℕ) (from now next : List ℕ) → IsPut IsText n now next
    → SoFar IsText n from now → SoFar IsText (n + 1) from next
one_more IsText n from now next put so =
    let next_is : suc n ≡ n + 1 = omega arith in
    record {
      text = so.text ++ put.0;
      put = put.1 ∙ ap (λ (front : List ℕ). front ++ put.0) so.put ∙ append_assoc from so.text put.0;
      are = subst (λ (k : ℕ). AreTexts IsText 0 k (so.text ++ put.0)) next_is
          (texts_more IsText 0 n so.text put.0 so.are (subst (λ (k : ℕ). IsText k put.0) (omega arith) put.2));
    }
