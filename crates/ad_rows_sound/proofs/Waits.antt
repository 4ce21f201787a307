-- What a pending list with one entry more covers, and which parents it has.
use Rattle.std.proofs.Common.{◌≡◌, ◌∙◌, ℕ, ◌+◌, ◌<◌, Bool, true, false, ◌==◌, cond, not, min, List, [], ◌∷◌, ◌++◌}
use Rattle.std.proofs.Common.{take, length, get_or, Option, None, Some, refl, sym, ap, subst, inl, inr, arith}
use Rattle.std.specs.Prelude.{◌||◌, ◌&&◌, nat_lt}
use Rattle.std.specs.List.{list_any}
use Rattle.std.specs.Ordering.{nat_cmp, is_eq}
use Rattle.std.specs.BTreeMap.{get, is_at, BTreeMap, Updates}
use Rattle.std.specs.BTreeSet.{contains, BTreeSet}
use Rattle.std.specs.BTreeSet as tree
use Rattle.std.specs.Map.{lookup}
use Rattle.std.proofs.Math.Bool.{or-false}
use Rattle.std.proofs.lemmas.Bool.{cases_Bool, eqb-true}
use Rattle.std.proofs.lemmas.Bool.Decides.{nat_tests}
use Rattle.std.proofs.lemmas.List.{take_more}
use Rattle.std.proofs.lemmas.List.Folds.{list_any-append}
use Rattle.prop_queue.specs.declared.pending.Pending.{Pending}
use Rattle.prop_queue.specs.Pending.{is_of, is_pending}
use Rattle.ad_dir_model.specs.Inheritance.{covers}
use Rattle.ad_rows_sound.specs.Waiting.{is_below, least_of, AreLeast, AreParents}

covers_none : (parent child : ℕ) → covers [] parent child ≡ false
unfolding covers
covers_none parent child = refl

covers_more : (xs : List Pending) (e : Pending) (parent child : ℕ) → covers (xs ++ e ∷ []) parent child
    ≡ covers xs parent child || (e.parent == parent && nat_lt e.cursor child)
unfolding covers
covers_more xs e parent child =
    list_any-append (λ x. x.parent == parent && nat_lt x.cursor child) xs (e ∷ [])
    ∙ ap (λ (b : Bool). list_any (λ x. x.parent == parent && nat_lt x.cursor child) xs || b)
    (or-false (e.parent == parent && nat_lt e.cursor child))

lesser_below : (a b child : ℕ) → nat_lt (min a b) child ≡ nat_lt b child || nat_lt a child
lesser_below a b child = grind (arith, nat_tests)

below_least : (earlier : Option ℕ) (cursor child : ℕ) → nat_lt (least_of earlier cursor) child
    ≡ is_below earlier child || nat_lt cursor child
below_least None cursor child = refl
below_least (Some earlier) cursor child = lesser_below cursor earlier child

or_true : (b : Bool) → (b || true) ≡ true
or_true true = refl
or_true false = refl

same_key : (a b : ℕ) → is_eq (nat_cmp a b) ≡ (a == b)
same_key a b = grind (arith, nat_tests)

-- one entry more
pub least_more : (m n : BTreeMap ℕ ℕ) (xs : List Pending) (e : Pending) (cursor : ℕ) → AreLeast m xs → cursor
    ≡ least_of (get nat_cmp m e.parent) e.cursor → Updates nat_cmp m n e.parent (Some cursor)
    → AreLeast n (xs ++ e ∷ [])
least_more m n xs e cursor h is up = λ parent child. elim (cases_Bool (e.parent == parent)) [
  | inl same ↦
      let here : e.parent ≡ parent = eqb-true e.parent parent same in
      let now : get nat_cmp n parent ≡ Some cursor = up.0 parent
      ∙ ap (λ (t : Bool). cond t (Some cursor) (get nat_cmp m parent)) (same_key e.parent parent ∙ same) in
      ap (λ (o : Option ℕ). is_below o child) now
      ∙ ap (λ (c : ℕ). nat_lt c child) (is ∙ ap (λ (p : ℕ). least_of (get nat_cmp m p) e.cursor) here)
      ∙ below_least (get nat_cmp m parent) e.cursor child
      ∙ ap (λ (b : Bool). b || nat_lt e.cursor child) (h parent child)
      ∙ ap (λ (t : Bool). covers xs parent child || (t && nat_lt e.cursor child)) (sym same)
      ∙ sym (covers_more xs e parent child)
  | inr other ↦
      let now : get nat_cmp n parent ≡ get nat_cmp m parent = up.0 parent
      ∙ ap (λ (t : Bool). cond t (Some cursor) (get nat_cmp m parent)) (same_key e.parent parent ∙ other) in
      ap (λ (o : Option ℕ). is_below o child) now
      ∙ h parent child
      ∙ sym (or-false (covers xs parent child))
      ∙ ap (λ (t : Bool). covers xs parent child || (t && nat_lt e.cursor child)) (sym other)
      ∙ sym (covers_more xs e parent child)
]

-- at a place of the list
pub least_at : (m n : BTreeMap ℕ ℕ) (xs : List Pending) (i cursor : ℕ) (d : Pending) → i < length xs
    → AreLeast m (take i xs) → cursor ≡ least_of (get nat_cmp m (get_or xs i d).parent) (get_or xs i d).cursor
    → Updates nat_cmp m n (get_or xs i d).parent (Some cursor) → AreLeast n (take (i + 1) xs)
least_at m n xs i cursor d lt h is up = subst (AreLeast n) (sym (take_more xs i d lt))
    (least_more m n (take i xs) (get_or xs i d) cursor h is up)

pub least_none : (m : BTreeMap ℕ ℕ) → m.entries ≡ [] → AreLeast m []
least_none m none = λ parent child. ap (λ (es : List (ℕ × ℕ)). is_below (lookup (is_at (nat_cmp parent)) es) child)
    none ∙ sym (covers_none parent child)

pending_more : (xs : List Pending) (e : Pending) (parent : ℕ) → is_pending parent (xs ++ e ∷ [])
    ≡ is_pending parent xs || (e.parent == parent)
pending_more xs e parent =
    list_any-append (is_of parent) xs (e ∷ []) ∙ ap (λ (b : Bool). is_pending parent xs || b)
    (or-false (e.parent == parent))

-- one parent more, that isn't in the set
pub parents_more : (s t : BTreeSet ℕ) (xs : List Pending) (e : Pending) → AreParents s xs → tree.Updates nat_cmp s t
    e.parent true → AreParents t (xs ++ e ∷ [])
parents_more s t xs e h up = λ parent. elim (cases_Bool (e.parent == parent)) [
  | inl same ↦
      up.0 parent ∙ ap (λ (b : Bool). cond b true (contains nat_cmp s parent)) (same_key e.parent parent ∙ same)
      ∙ sym (or_true (is_pending parent xs)) ∙ ap (λ (b : Bool). is_pending parent xs || b) (sym same)
      ∙ sym (pending_more xs e parent)
  | inr other ↦
      up.0 parent ∙ ap (λ (b : Bool). cond b true (contains nat_cmp s parent)) (same_key e.parent parent ∙ other)
      ∙ h parent ∙ sym (or-false (is_pending parent xs)) ∙ ap (λ (b : Bool). is_pending parent xs || b) (sym other)
      ∙ sym (pending_more xs e parent)
]

pub parents_at : (s t : BTreeSet ℕ) (xs : List Pending) (i : ℕ) (d : Pending) → i < length xs
    → AreParents s (take i xs) → tree.Updates nat_cmp s t (get_or xs i d).parent true → AreParents t (take (i + 1) xs)
parents_at s t xs i d lt h up = subst (AreParents t) (sym (take_more xs i d lt))
    (parents_more s t (take i xs) (get_or xs i d) h up)

not_true : (b : Bool) → not b ≡ true → b ≡ false
not_true false e = refl
not_true true e = sym e

not_false : (b : Bool) → not b ≡ false → b ≡ true
not_false true e = refl
not_false false e = sym e

-- what was put into the set anew wasn't pending, and what was there was
pub absent_if_new : (there pending new : Bool) → new ≡ not there → there ≡ pending → new ≡ true → pending ≡ false
absent_if_new there pending new is same put = sym same ∙ not_true there (sym is ∙ put)

pub there_if_old : (there pending new : Bool) → new ≡ not there → there ≡ pending → new ≡ false → pending ≡ true
there_if_old there pending new is same old = sym same ∙ not_false there (sym is ∙ old)
