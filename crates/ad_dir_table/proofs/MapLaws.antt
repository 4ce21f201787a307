-- What an edit of a map makes of the numbers that stand at keys.
use Rattle.std.proofs.Common.{◌≡◌, ℕ, true, List, Option, Some, None, Result, Ok, Err, sym, subst, ap, ◌∙◌, inl, inr}
use Rattle.std.specs.Prelude.{nat_eq, ◌⊎◌, IfOk}
use Rattle.std.specs.Map.{IsKeyTest, AreApart, KeepsOthers}
use Rattle.std.specs.Cmp.{first_so, second_so, unsigned_Decides}
use Rattle.std.specs.Cmp.Lexicographic.{bytes_decides}
use Rattle.std.specs.Str.{bytes_eq}
use Rattle.std.proofs.lemmas.Bool.{cases_Bool, both_ways}
use Rattle.std.proofs.lemmas.Option.{same_Some}
use Rattle.std.specs.Option.{option_map}
use Rattle.ad_ids.specs.SidValue.{SidValue, same_sid}
use Rattle.ad_ids.proofs.SidLaws.{same_sid-Decides}
use Rattle.ad_dir_table.specs.declared.name_key.NameKey.{NameKey}
use Rattle.ad_dir_table.specs.NameKeys.{ChildName, same_child, same_child_laws, key_name, is_key, same_key, name_at}
use Rattle.ad_dir_table.specs.KeyChanges.{Inserts, Removes}

pub if_ok : {A E : Type 0} {P Q : A → Type 0} (r : Result A E) → ((x : A) → P x → Q x) → IfOk r P → IfOk r Q
if_ok (Ok x) f p = f x p
if_ok (Err e) f p = tt

-- names that are told alike are the same
pub same_name : (a b : ChildName) → same_child a b ≡ true → a ≡ b
same_name a b is =
    let parent : a.parent ≡ b.parent = (unsigned_Decides a.parent b.parent).0
    (first_so (nat_eq a.parent b.parent) (bytes_eq a.folded b.folded) is) in
    let name : a.folded ≡ b.folded = (bytes_decides a.folded b.folded).0
    (second_so (nat_eq a.parent b.parent) (bytes_eq a.folded b.folded) is) in
    λ i. record { parent = parent i; folded = name i }

pub name_told : (a b : ChildName) → (a ≡ b) ⊎ (a ≡ b → ⊥)
name_told a b = elim (cases_Bool (same_child a b)) [
  | inl is ↦ inl (same_name a b is)
  | inr not ↦ inr (λ (e : a ≡ b). both_ways (same_child a b) not
      (subst (λ (n : ChildName). same_child a n ≡ true) e (same_child_laws.refl a)))
]

-- and so are identifiers
pub sid_told : (a b : SidValue) → (a ≡ b) ⊎ (a ≡ b → ⊥)
sid_told a b = elim (cases_Bool (same_sid a b)) [
  | inl is ↦ inl ((same_sid-Decides a b).0 is)
  | inr not ↦ inr (λ (e : a ≡ b). both_ways (same_sid a b) not ((same_sid-Decides a b).1 e))
]

-- ---- the map of names

name_test : (name : ChildName) → IsKeyTest same_key (is_key name)
name_test name x y is = same_child_laws.congr name (key_name x) (key_name y) is

names_apart : (a b : ChildName) → (a ≡ b → ⊥) → AreApart (is_key a) (is_key b)
names_apart a b apart key is = elim (cases_Bool (is_key b key)) [
  | inl other ↦ absurd (apart (same_name a (key_name key) is ∙ sym (same_name b (key_name key) other)))
  | inr not ↦ not
]

-- what stands at other names stays
pub other_names : (name : ChildName) (old new : List (NameKey × ℕ)) → KeepsOthers same_key (is_key name) old new
    → (v : ChildName) → (name ≡ v → ⊥) → name_at new v ≡ name_at old v
unfolding KeepsOthers
other_names name old new keeps v apart = keeps (is_key v) (name_test v) (names_apart name v apart)

pub name_put : (to : Option NameKey) (key : NameKey) (number : ℕ) (old new : List (NameKey × ℕ)) → to ≡ Some key
    → name_at new (key_name key) ≡ Some number → KeepsOthers same_key (is_key (key_name key)) old new
    → Inserts (option_map key_name to) number (name_at old) (name_at new)
name_put to key number old new is at keeps =
    subst (λ (t : Option NameKey). Inserts (option_map key_name t) number (name_at old) (name_at new)) (sym is)
    (record {
      here = λ v e. subst (λ (n : ChildName). name_at new n ≡ Some number) (same_Some (key_name key) v e) at;
      others = λ v apart. other_names (key_name key) old new keeps v (λ e. apart (ap Some e));
    })

pub name_taken : (name : ChildName) (old new : List (NameKey × ℕ)) → name_at new name ≡ None
    → KeepsOthers same_key (is_key name) old new → Removes (Some name) (name_at old) (name_at new)
name_taken name old new at keeps = record {
  here = λ v e. subst (λ (n : ChildName). name_at new n ≡ None) (same_Some name v e) at;
  others = λ v apart. other_names name old new keeps v (λ e. apart (ap Some e));
}
