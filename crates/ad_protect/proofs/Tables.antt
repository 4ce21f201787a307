-- The table of primary groups: one more object, and what it has.
use Rattle.std.proofs.Common.{◌≡◌, ℕ, Bool, true, false, cond, List, [], ◌∷◌, ◌++◌, Option, Some, None, inl, inr, sym}
use Rattle.std.proofs.Common.{subst, ap, ◌∙◌}
use Rattle.std.specs.Prelude.{nat_eq, ◌||◌, ◌&&◌, if◌then◌else◌}
use Rattle.std.specs.Option.{option_map_or}
use Rattle.std.specs.Global.{Vec}
use Rattle.std.proofs.lemmas.Bool.{eqb-true, cases_Bool, false≢true, or_cases, or_left, or_right, and_parts, and_from}
use Rattle.ad_dir_model.specs.Directory.{Directory}
use Rattle.ad_dir_model.specs.Protection.{has}
use Rattle.ad_protect.specs.Spreading.{primary_at, is_number, IsTableOf, Notes}
use Rattle.ad_protect.proofs.Sets.{or_false, has_append}

pub table_none : (dir : Directory) (table : ℕ → List ℕ) → ((rid : ℕ) → table rid ≡ []) → IsTableOf dir [] table
table_none dir table none = record {
  each = λ rid n is. absurd (false≢true is);
  there = λ rid n is. sym (ap (λ (ns : List ℕ). has ns n) (none rid)) ∙ is;
  only = λ rid n is. absurd (false≢true (sym (ap (λ (ns : List ℕ). has ns n) (none rid)) ∙ is));
}

pub table_more : (dir : Directory) (done : List ℕ) (x : ℕ) (old new : ℕ → List ℕ) → IsTableOf dir done old
    → Notes (primary_at dir x) x old new → IsTableOf dir (done ++ x ∷ []) new
table_more dir done x old new t notes = record { each = each; there = there; only = only }
  where
    here : ℕ → ℕ → Bool
    here rid n = is_number (primary_at dir x) rid && nat_eq x n

    each : (rid n : ℕ) → has (done ++ x ∷ []) n ≡ true → is_number (primary_at dir n) rid ≡ true → has (new rid) n
        ≡ true
    each rid n is own = elim (or_cases (has done n) (has (x ∷ []) n) (sym (has_append done (x ∷ []) n) ∙ is)) [
      | inl before ↦ notes rid n ∙ or_left (has (old rid) n) (here rid n) (t.each rid n before own)
      | inr last ↦ elim (or_cases (nat_eq x n) false last) [
        | inl same ↦
            let of_x : is_number (primary_at dir x) rid ≡ true
            = subst (λ (k : ℕ). is_number (primary_at dir k) rid ≡ true) (sym (eqb-true x n same)) own in
            notes rid n ∙ or_right (has (old rid) n) (here rid n)
            (and_from (is_number (primary_at dir x) rid) (nat_eq x n) of_x same)
        | inr never ↦ absurd (false≢true never)
      ]
    ]

    there : (rid n : ℕ) → has (new rid) n ≡ true → has (done ++ x ∷ []) n ≡ true
    there rid n is = has_append done (x ∷ []) n
        ∙ elim (or_cases (has (old rid) n) (here rid n) (sym (notes rid n) ∙ is)) [
          | inl before ↦ or_left (has done n) (has (x ∷ []) n) (t.there rid n before)
          | inr now ↦ or_right (has done n) (has (x ∷ []) n)
              (or_left (nat_eq x n) false (and_parts (is_number (primary_at dir x) rid) (nat_eq x n) now).1)
        ]

    only : (rid n : ℕ) → has (new rid) n ≡ true → is_number (primary_at dir n) rid ≡ true
    only rid n is = elim (or_cases (has (old rid) n) (here rid n) (sym (notes rid n) ∙ is)) [
      | inl before ↦ t.only rid n before
      | inr now ↦
          let parts = and_parts (is_number (primary_at dir x) rid) (nat_eq x n) now in
          subst (λ (k : ℕ). is_number (primary_at dir k) rid ≡ true) (eqb-true x n parts.1) parts.0
    ]

-- ---- one more number at a place

pub notes_some : (rid number : ℕ) (old new : ℕ → List ℕ)
    → ((other : ℕ) → new other ≡ (if nat_eq rid other then old rid ++ number ∷ [] else old other))
    → Notes (Some rid) number old new
notes_some rid number old new is other n =
    elim (cases_Bool (nat_eq rid other)) [
      | inl same ↦
          let at : new other ≡ old rid ++ number ∷ [] = rw same at (is other) in
          let place : old rid ≡ old other = ap old (eqb-true rid other same) in
          rw same (ap (λ (ns : List ℕ). has ns n) at ∙ has_append (old rid) (number ∷ []) n
          ∙ ap (λ (ns : List ℕ). has ns n || (nat_eq number n || false)) place
          ∙ ap (λ (b : Bool). has (old other) n || b) (sym (or_false (nat_eq number n))))
      | inr apart ↦
          let at : new other ≡ old other = rw apart at (is other) in
          rw apart (ap (λ (ns : List ℕ). has ns n) at ∙ or_false (has (old other) n))
    ]

pub notes_none : (number : ℕ) (old : ℕ → List ℕ) → Notes None number old old
notes_none number old other n = or_false (has (old other) n)

-- what a map has at a place after the numbers at a place were taken out and put back with one more
pub put_back : (rid other number : ℕ) (old mid new : ℕ → Option (Vec ℕ)) (numbers more : Vec ℕ)
    → numbers.items ≡ option_map_or (λ (v : Vec ℕ). v.items) (old rid) [] → more.items ≡ numbers.items ++ number ∷ []
    → mid other ≡ cond (nat_eq rid other) None (old other) → new other ≡ cond (nat_eq rid other) (Some more) (mid other)
    → option_map_or (λ (v : Vec ℕ). v.items) (new other) []
    ≡ (if nat_eq rid other then option_map_or (λ (v : Vec ℕ). v.items) (old rid) [] ++ number ∷ []
    else option_map_or (λ (v : Vec ℕ). v.items) (old other) [])
put_back rid other number old mid new numbers more items pushed at_mid at_new =
    elim (cases_Bool (nat_eq rid other)) [
      | inl same ↦
          let at : new other ≡ Some more = rw same at at_new in
          rw same (ap (λ (found : Option (Vec ℕ)). option_map_or (λ (v : Vec ℕ). v.items) found []) at ∙ pushed
          ∙ ap (λ (ns : List ℕ). ns ++ number ∷ []) items)
      | inr apart ↦
          let at : new other ≡ mid other = rw apart at at_new in
          let before : mid other ≡ old other = rw apart at at_mid in
          rw apart (ap (λ (found : Option (Vec ℕ)). option_map_or (λ (v : Vec ℕ). v.items) found []) (at ∙ before))
    ]
