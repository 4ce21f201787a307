-- The nodes of those places whose flag is set, place by place.
use Rattle.std.proofs.Common.{◌≡◌, ◌∙◌, ℕ, ◌+◌, ◌<◌, ◌≤◌, inl, inr}
use Rattle.std.proofs.Common.{Bool, true, false, Some, None, List, [], ◌∷◌, ◌++◌, length}
use Rattle.std.proofs.Common.{if◌then◌else◌, refl, sym, ap, arith}
use Rattle.std.specs.Prelude.{slice_get}
use Rattle.std.proofs.lemmas.Bool.{cases_lt, false≢true}
use Rattle.std.proofs.lemmas.Option.{same_Some, slice_get_within}
use Rattle.ad_control_graph.specs.Drawing.{IsIn, IsBy}
use Rattle.ad_control_graph.proofs.Getting.{get_before, get_seam, get_either}

-- those of the first places were found
pub record IsFound (set : List Bool) (at : List ℕ) (n : ℕ) (found : List ℕ) : Type 0 where
  pub only : (x : ℕ) → IsIn found x → IsBy set at (λ there. there) x
  pub all : (place x : ℕ) → place < n → slice_get at place ≡ Some x → slice_get set place ≡ Some true → IsIn found x

-- one more, whose flag is set
pub found_more : (set : List Bool) (at : List ℕ) (n node : ℕ) (found : List ℕ) → slice_get set n ≡ Some true
    → slice_get at n ≡ Some node → IsFound set at n found → IsFound set at (n + 1) (found ++ node ∷ [])
found_more set at n node found is_set is_at so_far = record {
  only = λ x is. elim (get_either found node is.0 x is.1) [
    | inl before ↦ so_far.only x (is.0, before)
    | inr last ↦ record {
      place = n;
      thing = true;
      is_thing = is_set;
      is_at = is_at ∙ ap (λ (k : ℕ). Some k) (sym last.1);
      passes = refl;
    }
  ];
  all = λ place x lt a s. elim (cases_lt place n) [
    | inl low ↦ let is = so_far.all place x low a s in (is.0, get_before found (node ∷ []) is.0 x is.1)
    | inr high ↦
        let here : place ≡ n = omega (arith, lt, high) in
        let same : node ≡ x = same_Some node x (sym is_at ∙ ap (slice_get at) (sym here) ∙ a) in
        (length found, get_seam found node ∙ ap (λ (k : ℕ). Some k) same)
  ];
}

-- one more that isn't chosen
pub found_skip : (set : List Bool) (at : List ℕ) (n : ℕ) (found : List ℕ)
    → ((x : ℕ) → slice_get at n ≡ Some x → slice_get set n ≡ Some true → ⊥) → IsFound set at n found
    → IsFound set at (n + 1) found
found_skip set at n found not so_far = record {
  only = so_far.only;
  all = λ place x lt a s. elim (cases_lt place n) [
    | inl low ↦ so_far.all place x low a s
    | inr high ↦
        let here : n ≡ place = omega (arith, lt, high) in
        absurd (not x (ap (slice_get at) here ∙ a) (ap (slice_get set) here ∙ s))
  ];
}

-- the node of a place, where its flag is set
pub found_if : (set : List Bool) (at : List ℕ) (n : ℕ) (flag : Bool) (node : ℕ) (found : List ℕ)
    → slice_get set n ≡ Some flag → Some node ≡ (if flag then slice_get at n else None) → IsFound set at n found
    → IsFound set at (n + 1) (found ++ node ∷ [])
found_if set at n true node found is told so_far = found_more set at n node found is (sym told) so_far
found_if set at n false node found is told so_far = absurd cc

pub found_unless : (set : List Bool) (at : List ℕ) (n : ℕ) (flag : Bool) (found : List ℕ) → slice_get set n ≡ Some flag
    → (if flag then slice_get at n else None) ≡ None → IsFound set at n found → IsFound set at (n + 1) found
found_unless set at n true found is told so_far =
    found_skip set at n found (λ x a s. let e : None ≡ Some x = sym told ∙ a in absurd cc) so_far
found_unless set at n false found is told so_far =
    found_skip set at n found (λ x a s. false≢true (same_Some false true (sym is ∙ s))) so_far

pub found_all : (set : List Bool) (at : List ℕ) (n : ℕ) (found : List ℕ) → length set ≤ n → IsFound set at n found
    → (x : ℕ) → IsBy set at (λ there. there) x → IsIn found x
found_all set at n found whole so_far x is =
    let low = slice_get_within set is.place is.thing is.is_thing in
    so_far.all is.place x (omega (arith, low, whole)) is.is_at (is.is_thing ∙ ap (λ (b : Bool). Some b) is.passes)
