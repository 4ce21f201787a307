-- What is known of items whose names were looked up once.
use Rattle.std.proofs.Common.{◌≡◌, ℕ, ◌+◌, ◌<◌, ◌≤◌, Bool, true, false, List, [], ◌∷◌, ◌++◌, length, map, get_or, drop}
use Rattle.std.proofs.Common.{Option, Some, None, inl, inr, refl, sym, subst, ap, ◌∙◌, arith}
use Rattle.std.specs.Prelude.{◌==◌, ◌&&◌, find, filter, filter_map, codes, option_map, option_to_list}
use Rattle.std.specs.List.{AllByRecursion, cons_option}
use Rattle.std.specs.Option.{option_map_or, option_and_then}
use Rattle.std.specs.Str.{bytes_eq, str_to_ascii_lowercase}
use Rattle.std.proofs.lemmas.Bool.{cases_Bool, true≢false, eqb-true}
use Rattle.std.proofs.lemmas.List.{get_or-map, append_assoc, append-nil, at_drop_more, at_drop_all}
use Rattle.std.proofs.lemmas.List.Elements.{All-from_recursion, All-get_or}
use Rattle.std.proofs.lemmas.Slice.Eq.{bytes_eq-Decides}
use Rattle.ad_sd.specs.declared.parts.SdParts.{SdParts}
use Rattle.ad_ldap.specs.declared.items.Item.{Item}
use Rattle.ad_schema_classes.specs.Names.{same_name}
use Rattle.ad_schema.specs.declared.line.SchemaRecord.{SchemaRecord}
use Rattle.ad_schema.specs.declared.info.AttrId.{AttrId}
use Rattle.ad_dir_objects.specs.declared.act.ActItem.{ActItem}
use Rattle.ad_needs_rules.specs.declared.outcome.Verdict.TheVariants.{Refused}
use Rattle.ad_needs_rules.specs.Requests.{is_descriptor}
use Rattle.ad_needs_rules.specs.Descriptors.{sd_in_one, asked_parts, has_part, has_asked_part}
use Rattle.ad_needs_rules.specs.Checks.{first_failing}
use Rattle.ad_needs_rules.specs.Judged.{refusal_of}
use Rattle.ad_needs_rules.specs.Modifying.{items_of, written_sd, descriptor_checks, act_item, act_items}
use Rattle.ad_needs.specs.Decoding.{attr_of}

-- ---- the attribute of an item

pub at_place : (schema : List SchemaRecord) (items : List Item) (i : ℕ) (item : Item)
    (attrs : List (Option AttrId)) → attrs ≡ map (attr_of schema) items → i < length items
    → item ≡ get_or items i item → get_or attrs i None ≡ attr_of schema item
at_place schema items i item attrs are lt is =
    ap (λ (xs : List (Option AttrId)). get_or xs i None) are ∙ get_or-map (attr_of schema) items i item None lt
    ∙ sym (ap (attr_of schema) is)

-- ---- the only item of the descriptor

abbrev of_descriptor : Item → Bool
of_descriptor item = is_descriptor item.attr

-- where none passes a test, whoever passes it is anything
none_passes : {A : Type 0} (test : A → Bool) (P : A → Type 0) (xs : List A) → length (filter test xs) ≡ 0
    → AllByRecursion (λ x. test x ≡ true → P x) xs
none_passes test P [] none = tt
none_passes test P (x ∷ xs) none = elim (cases_Bool (test x)) [
  | inl yes' ↦ absurd (omega (arith, (rw yes' at none)))
  | inr no' ↦ (λ is. absurd (true≢false (sym is ∙ no')), none_passes test P xs (rw no' at none))
]

-- where one passes it alone, it is the first
first_is_it : {A : Type 0} (test : A → Bool) (xs : List A) → length (filter test xs) ≡ 1
    → AllByRecursion (λ x. test x ≡ true → find test xs ≡ Some x) xs
first_is_it test [] one = tt
first_is_it test (x ∷ xs) one = elim (cases_Bool (test x)) [
  | inl yes' ↦
      let left : length (filter test xs) ≡ 0 = omega (arith, (rw yes' at one)) in
      let here : find test (x ∷ xs) ≡ Some x = rw yes' refl in (
        (λ is. here),
        subst (λ o. AllByRecursion (λ y. test y ≡ true → o ≡ Some y) xs) (sym here)
            (none_passes test (λ y. Some x ≡ Some y) xs left),
      )
  | inr no' ↦
      let here : find test (x ∷ xs) ≡ find test xs = rw no' refl in (
        (λ is. absurd (true≢false (sym is ∙ no'))),
        subst (λ o. AllByRecursion (λ y. test y ≡ true → o ≡ Some y) xs) (sym here)
            (first_is_it test xs (rw no' at one)),
      )
]

-- items of one descriptor's name are those of the descriptor
same_items : (items : List Item) (name : List ℕ) → is_descriptor name ≡ true → items_of items name
    ≡ filter of_descriptor items
unfolding same_name
same_items items name is =
    ap (λ (lower : List ℕ). filter (λ (item : Item). bytes_eq (str_to_ascii_lowercase item.attr) lower) items)
    ((bytes_eq-Decides (str_to_ascii_lowercase name) (str_to_ascii_lowercase (codes "nTSecurityDescriptor"))).0 is)

pub sole_descriptor : (items : List Item) (i : ℕ) (item : Item) → i < length items → item ≡ get_or items i item
    → is_descriptor item.attr ≡ true → length (items_of items item.attr) ≡ 1
    → find of_descriptor items ≡ Some item
sole_descriptor items i item lt at is one =
    let all = All-from_recursion (λ (x : Item). of_descriptor x ≡ true → find of_descriptor items ≡ Some x) items
    (first_is_it of_descriptor items (ap length (sym (same_items items item.attr is)) ∙ one)) in
    subst (λ (x : Item). of_descriptor x ≡ true → find of_descriptor items ≡ Some x) (sym at)
    (All-get_or (λ (x : Item). of_descriptor x ≡ true → find of_descriptor items ≡ Some x) items i item lt all) is

part_by : (flags : ℕ) (sd : Option SdParts) → option_map_or has_part (option_map (asked_parts flags) sd) false
    ≡ option_map_or (λ parts. has_part (asked_parts flags parts)) sd false
part_by flags None = refl
part_by flags (Some parts) = refl

-- a part of it is written exactly where its value has one that is asked for
pub sole_part : (items : List Item) (flags i : ℕ) (item : Item) (sd : Option SdParts) → sd ≡ written_sd items flags
    → i < length items → item ≡ get_or items i item → is_descriptor item.attr ≡ true
    → length (items_of items item.attr) ≡ 1 → option_map_or has_part sd false ≡ has_asked_part flags item.values
sole_part items flags i item sd written lt at is one =
    ap (λ (x : Option SdParts). option_map_or has_part x false)
    (written ∙ ap (λ (found : Option Item). option_map (asked_parts flags)
    (option_and_then (λ (x : Item). sd_in_one x.values) found)) (sole_descriptor items i item lt at is one))
    ∙ part_by flags (sd_in_one item.values)

-- ---- its checks

and_first : (a b : Bool) → (a && b) ≡ true → (a ≡ true) × (b ≡ true)
and_first true true is = (refl, refl)
and_first true false is = absurd (true≢false (sym is))
and_first false b is = absurd (true≢false (sym is))

pub alone : (items : List Item) (item : Item) → (item.op == 2 && length (items_of items item.attr) == 1) ≡ true
    → length (items_of items item.attr) ≡ 1
alone items item is = eqb-true (length (items_of items item.attr)) 1
    (and_first (item.op == 2) (length (items_of items item.attr) == 1) is).1

pub not_alone : (flags : ℕ) (items : List Item) (item : Item)
    → (item.op == 2 && length (items_of items item.attr) == 1) ≡ false
    → Some (Refused 53) ≡ refusal_of (descriptor_checks flags items item)
unfolding refusal_of first_failing
not_alone flags items item is = rw is refl

pub with_part : (flags : ℕ) (items : List Item) (item : Item)
    → (item.op == 2 && length (items_of items item.attr) == 1) ≡ true → has_asked_part flags item.values ≡ true
    → None ≡ refusal_of (descriptor_checks flags items item)
unfolding refusal_of first_failing
with_part flags items item is has = rw (is, has) refl

pub without_part : (flags : ℕ) (items : List Item) (item : Item)
    → (item.op == 2 && length (items_of items item.attr) == 1) ≡ true → has_asked_part flags item.values ≡ false
    → Some (Refused 19) ≡ refusal_of (descriptor_checks flags items item)
unfolding refusal_of first_failing
without_part flags items item is has = rw (is, has) refl

-- ---- what is asked for, item by item

front_of : {A : Type 0} (o : Option A) (xs : List A) → option_to_list o ++ xs ≡ cons_option o xs
front_of None xs = refl
front_of (Some x) xs = refl

pub acts_more : (schema : List SchemaRecord) (items : List Item) (i : ℕ) (item : Item) (act : Option ActItem)
    (old new : List ActItem)
    → i < length items → item ≡ get_or items i item → act ≡ act_item schema item → new ≡ old ++ option_to_list act
    → old ++ filter_map (act_item schema) (drop i items) ≡ filter_map (act_item schema) items
    → new ++ filter_map (act_item schema) (drop (i + 1) items) ≡ filter_map (act_item schema) items
acts_more schema items i item act old new lt at is made so_far =
    let rest : List ActItem = filter_map (act_item schema) (drop (i + 1) items) in
    ap (λ (xs : List ActItem). xs ++ rest) made
    ∙ append_assoc old (option_to_list act) rest
    ∙ ap (λ (xs : List ActItem). old ++ xs)
    (front_of act rest ∙ ap (λ (o : Option ActItem). cons_option o rest) is
    ∙ ap (λ (x : Item). filter_map (act_item schema) (x ∷ drop (i + 1) items)) at
    ∙ sym (at_drop_more (filter_map (act_item schema)) items i item lt))
    ∙ so_far

pub acts_end : (schema : List SchemaRecord) (items : List Item) (i : ℕ) (all : List ActItem) → length items ≤ i
    → all ++ filter_map (act_item schema) (drop i items) ≡ filter_map (act_item schema) items
    → all ≡ act_items schema items
unfolding act_items
acts_end schema items i all le so_far =
    sym (append-nil all)
    ∙ ap (λ (xs : List ActItem). all ++ xs) (sym (at_drop_all (filter_map (act_item schema)) items i le)) ∙ so_far
