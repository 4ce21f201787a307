-- The names in the lists that are told are those of what is told.
use Rattle.std.proofs.Common.{◌≡◌, ℕ, zero, suc, ◌<◌, Bool, true, false, List, [], ◌++◌, Option, Some, None, length}
use Rattle.std.proofs.Common.{refl, sym, subst, ◌↔◌, inl, inr, arith}
use Rattle.std.specs.Prelude.{slice_get}
use Rattle.std.specs.Option.{option_map_or}
use Rattle.std.specs.List.{Contains}
use Rattle.std.proofs.lemmas.List.Elements.{Contains-append_left, Contains-append_right, Contains-append_cases}
use Rattle.std.proofs.lemmas.List.Elements.{Contains-push, Contains-push_cases}
use Rattle.std.proofs.lemmas.Option.{slice_get_within}
use Rattle.std.proofs.Math.Nat.{eq-or-lt_of_le}
use Rattle.ad_ids.specs.declared.token.Token.{Token}
use Rattle.ad_schema.specs.declared.info.AttrInfo.{AttrInfo}
use Rattle.ad_schema.specs.declared.info.ClassInfo.{ClassInfo}
use Rattle.ad_schema.specs.Attributes.{attrs_of}
use Rattle.ad_schema.specs.Classes.{classes_of}
use Rattle.ad_constructed.specs.Listed.{name_if, is_listed, attribute_at, attributes_below, is_child_listed, child_at}
use Rattle.ad_constructed.specs.Listed.{children_below}
use Rattle.ad_constructed_dir.specs.Changing.{rights_at, changing_of}
use Rattle.ad_dir_model.specs.Objects.{object_at}
use Rattle.ad_dir_model.specs.Directory.{Directory}
use Rattle.ad_search_laws.specs.Told.{IsTold, IsNameTold}
use Rattle.ad_search_laws.specs.Children.{IsChildTold, IsChildNameTold}

no_contents : (x : List ℕ) → Contains [] x → ⊥
no_contents x held = let lt = held.1 in omega (arith, lt)

-- ---- a list that is put together place by place

module _ (parts at : ℕ → List (List ℕ)) (begins : parts zero ≡ []) (more : (n : ℕ) → parts (suc n) ≡ parts n ++ at n)
    (x : List ℕ) where
  held_below : (n k : ℕ) → k < n → Contains (at k) x → Contains (parts n) x
  held_below zero k lt held = absurd (omega (arith, lt))
  held_below (suc n) k lt held =
      subst (λ (xs : List (List ℕ)). Contains xs x) (sym (more n)) (elim (eq-or-lt_of_le {n = k} {m = n}
      (omega (arith, lt))) [
        | inl last ↦ Contains-append_right (parts n) (at n) x
            (subst (λ (j : ℕ). Contains (at j) x) last held)
        | inr before ↦ Contains-append_left (parts n) (at n) x (held_below n k before held)
      ])

  record IsHeld : Type 0 where
    place : ℕ
    there : Contains (at place) x

  held_at : (n : ℕ) → Contains (parts n) x → IsHeld
  held_at zero held = absurd (no_contents x (subst (λ (xs : List (List ℕ)). Contains xs x) begins held))
  held_at (suc n) held =
      let split = Contains-append_cases (parts n) (at n) x
      (subst (λ (xs : List (List ℕ)). Contains xs x) (more n) held) in
      elim split [
        | inl before ↦ held_at n before
        | inr last ↦ record { place = n; there = last }
      ]

-- ---- one name

-- the name stands there where it is listed
name_there : (listed : Bool) (name : List ℕ) → listed ≡ true → Contains (name_if listed name) name
name_there true name is = Contains-push [] name
name_there false name is = absurd cc

record IsOneName (listed : Bool) (own name : List ℕ) : Type 0 where
  is : listed ≡ true
  same : own ≡ name

one_name : (listed : Bool) (own name : List ℕ) → Contains (name_if listed own) name → IsOneName listed own name
one_name true own name held = elim (Contains-push_cases [] own name held) [
  | inl none ↦ absurd (no_contents name none)
  | inr same ↦ record { is = refl; same = same }
]
one_name false own name held = absurd (no_contents name held)

module _ (dir : Directory) (token : Token) (number : ℕ) (name : List ℕ) where
  class : ℕ
  class = (object_at dir.objects number).class

  -- ---- attributes

  attribute_held : (place : ℕ) (info : AttrInfo) → slice_get (attrs_of dir.schema) place ≡ Some info → info.name ≡ name
      → IsTold dir token number place info
      → Contains (attribute_at dir.schema class (rights_at dir token number) place) name
  unfolding attribute_at class
  attribute_held place info there named told =
      subst (λ (found : Option AttrInfo). Contains (option_map_or (λ (i : AttrInfo). name_if
      (is_listed dir.schema (object_at dir.objects number).class (rights_at dir token number) place i) i.name) found [])
      name) (sym there)
      (subst (λ (n : List ℕ). Contains (name_if (is_listed dir.schema (object_at dir.objects number).class
      (rights_at dir token number) place info) info.name) n) named
      (name_there (is_listed dir.schema (object_at dir.objects number).class (rights_at dir token number) place info)
      info.name told))

  attribute_was : (place : ℕ) → Contains (attribute_at dir.schema class (rights_at dir token number) place) name
      → IsNameTold dir token number name
  unfolding attribute_at class
  attribute_was place held = by_info (slice_get (attrs_of dir.schema) place) refl held
    where
      by_info : (found : Option AttrInfo) → slice_get (attrs_of dir.schema) place ≡ found
          → Contains (option_map_or (λ (i : AttrInfo). name_if
          (is_listed dir.schema (object_at dir.objects number).class (rights_at dir token number) place i) i.name)
          found []) name
          → IsNameTold dir token number name
      by_info None there held' = absurd (no_contents name held')
      by_info (Some info) there held' =
          let one = one_name (is_listed dir.schema (object_at dir.objects number).class (rights_at dir token number)
          place info) info.name name held' in
          record { place = place; info = info; there = there; named = one.same; told = one.is }

  pub attribute_names : Contains (changing_of dir token number).attributes name ↔ IsNameTold dir token number name
  unfolding changing_of attributes_below class
  attribute_names = (
    λ held.
        let it = held_at (attributes_below dir.schema class (rights_at dir token number))
        (attribute_at dir.schema class (rights_at dir token number)) refl (λ n. refl) name
        (length (attrs_of dir.schema)) held in
        attribute_was it.place it.there,
    λ is. held_below (attributes_below dir.schema class (rights_at dir token number))
        (attribute_at dir.schema class (rights_at dir token number)) refl (λ n. refl) name
        (length (attrs_of dir.schema)) is.place (slice_get_within (attrs_of dir.schema) is.place is.info is.there)
        (attribute_held is.place is.info is.there is.named is.told),
  )

  -- ---- classes of children

  child_held : (place : ℕ) (info : ClassInfo) → slice_get (classes_of dir.schema) place ≡ Some info → info.name ≡ name
      → IsChildTold dir token number place
      → Contains (child_at dir.schema class (rights_at dir token number) place) name
  unfolding child_at class
  child_held place info there named told =
      subst (λ (found : Option ClassInfo). Contains (option_map_or (λ (i : ClassInfo). name_if
      (is_child_listed dir.schema (object_at dir.objects number).class (rights_at dir token number) place) i.name)
      found []) name) (sym there)
      (subst (λ (n : List ℕ). Contains (name_if (is_child_listed dir.schema (object_at dir.objects number).class
      (rights_at dir token number) place) info.name) n) named
      (name_there (is_child_listed dir.schema (object_at dir.objects number).class (rights_at dir token number) place)
      info.name told))

  child_was : (place : ℕ) → Contains (child_at dir.schema class (rights_at dir token number) place) name
      → IsChildNameTold dir token number name
  unfolding child_at class
  child_was place held = by_info (slice_get (classes_of dir.schema) place) refl held
    where
      by_info : (found : Option ClassInfo) → slice_get (classes_of dir.schema) place ≡ found
          → Contains (option_map_or (λ (i : ClassInfo). name_if
          (is_child_listed dir.schema (object_at dir.objects number).class (rights_at dir token number) place) i.name)
          found []) name
          → IsChildNameTold dir token number name
      by_info None there held' = absurd (no_contents name held')
      by_info (Some info) there held' =
          let one = one_name (is_child_listed dir.schema (object_at dir.objects number).class
          (rights_at dir token number) place) info.name name held' in
          record { class = place; info = info; there = there; named = one.same; told = one.is }

  pub child_names : Contains (changing_of dir token number).children name ↔ IsChildNameTold dir token number name
  unfolding changing_of children_below class
  child_names = (
    λ held.
        let it = held_at (children_below dir.schema class (rights_at dir token number))
        (child_at dir.schema class (rights_at dir token number)) refl (λ n. refl) name
        (length (classes_of dir.schema)) held in
        child_was it.place it.there,
    λ is. held_below (children_below dir.schema class (rights_at dir token number))
        (child_at dir.schema class (rights_at dir token number)) refl (λ n. refl) name
        (length (classes_of dir.schema)) is.class (slice_get_within (classes_of dir.schema) is.class is.info is.there)
        (child_held is.class is.info is.there is.named is.told),
  )
