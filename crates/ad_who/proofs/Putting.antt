-- What is put at the end, piece by piece.
use Rattle.std.proofs.Common.{◌≡◌, ◌∙◌, ℕ, List, ◌++◌, Option, None, Result, Ok, Err, OnOk, sym, ap, append_assoc}
use Rattle.std.proofs.lemmas.List.{append-nil}
use Rattle.ad_ids.specs.declared.token.Token.{Token}
use Rattle.ad_dir_model.specs.Directory.{Directory}
use Rattle.ad_needs_rules.specs.Needs.{Alternative}
use Rattle.ad_who.specs.declared.reason.Reason.{Reason}
use Rattle.ad_who.specs.Reason.{told}
use Rattle.ad_who.specs.Lines.{line_if, told_line}

-- what follows where a call succeeds
pub where_ok : {A E : Type 0} {P Q : Type 0} (r : Result A E) → (P → Q) → OnOk r P → OnOk r Q
where_ok (Ok x) f p = f p
where_ok (Err e) f p = tt

pub two_put : (a b c x y : List ℕ) → b ≡ a ++ x → c ≡ b ++ y → c ≡ a ++ (x ++ y)
two_put a b c x y e f = f ∙ ap (λ (l : List ℕ). l ++ y) e ∙ append_assoc a x y

pub three_put : (a b c d x y z : List ℕ) → b ≡ a ++ x → c ≡ b ++ y → d ≡ c ++ z → d ≡ a ++ (x ++ (y ++ z))
three_put a b c d x y z e f g = two_put a b d x (y ++ z) e (two_put b c d y z f g)

-- ---- the line of a yes

pub line_is : (dir : Directory) (token : Token) (number : ℕ) (needed : List (List Alternative)) (rest : List ℕ)
    (reason : Option Reason) → reason ≡ told dir token number needed
    → line_if reason rest ≡ told_line dir token number needed rest
unfolding told_line
line_is dir token number needed rest reason is = ap (λ (found : Option Reason). line_if found rest) is

pub no_line : (into : List ℕ) (dir : Directory) (token : Token) (number : ℕ) (needed : List (List Alternative))
    (rest : List ℕ) → None ≡ told dir token number needed → into ≡ into ++ told_line dir token number needed rest
no_line into dir token number needed rest none =
    sym (append-nil into) ∙ ap (λ (line : List ℕ). into ++ line) (line_is dir token number needed rest None none)
