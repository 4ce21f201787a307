-- The checks of the attributes that the items name, one after the other.
use Rattle.std.proofs.Common.{◌≡◌, ℕ, suc, ◌+◌, ◌-◌, ◌<◌, ◌≤◌, Bool, true, false, List, [], ◌∷◌, length, map, not}
use Rattle.std.proofs.Common.{take, set, get_or, replicate, Some, None}
use Rattle.std.proofs.Common.{inl, inr, refl, sym, subst, ap, ◌∙◌, arith, get_or-set_same, get_or-set_other}
use Rattle.std.specs.Prelude.{◌||◌, ◌&&◌, ◌==◌, nat_eq, nat_lt, filter, if◌then◌else◌}
use Rattle.std.proofs.lemmas.Option.{none-some}
use Rattle.std.proofs.Math.Bool.{or-false}
use Rattle.std.proofs.lemmas.Bool.{cases_Bool, eqb-true, eqb-false, or_right}
use Rattle.std.proofs.lemmas.List.{length-set, length-map, get_or-replicate, take_all}
use Rattle.std.proofs.lemmas.List.Folds.{list_any_more}
use Rattle.ad_dir_objects.specs.declared.act.ActItem.{ActItem}
use Rattle.ad_schema.specs.declared.line.SchemaRecord.{SchemaRecord}
use Rattle.ad_schema.specs.Classes.{is_allowed}
use Rattle.ad_dir_objects.specs.declared.object.Stored.{Stored as StoredIn}
use Rattle.ad_dir_objects.specs.Seen.{stored_seen}
use Rattle.ad_dir_model.specs.Object.{Held, stored_in}
use Rattle.ad_change_values.specs.Values.{is_lacking}
use Rattle.ad_dir_model.specs.Attributes.{is_single}
use Rattle.ad_change_values.specs.Items.{is_item_named, final_checks}
use Rattle.ad_change_values.specs.Judging.{AreNamed}
use Rattle.std.specs.List.{range_with_len, flat_map}
use Rattle.ad_needs_rules.specs.Checks.{Refusal, Check, code, or_code, first_failing}
use Rattle.ad_needs_rules.proofs.FirstFailing.{all_pass, one_fails}

-- the checks of those that pass, from one on
abbrev pub from_on : (ℕ → List Check) → (ℕ → Bool) → ℕ → ℕ → List Check
from_on f p n i = flat_map f (filter p (range_with_len i (n - i)))

range_more : (n i : ℕ) → i < n → range_with_len i (n - i) ≡ i ∷ range_with_len (i + 1) (n - (i + 1))
range_more n i lt =
    let left : n - i ≡ suc (n - (i + 1)) = omega (arith, lt) in
    ap (range_with_len i) left

named_more : (f : ℕ → List Check) (p : ℕ → Bool) (n i : ℕ) → i < n → p i ≡ true → first_failing (f i) ≡ None
    → first_failing (from_on f p n i) ≡ first_failing (from_on f p n (i + 1))
named_more f p n i lt named none =
    let rest : List ℕ = range_with_len (i + 1) (n - (i + 1)) in
    let here : filter p (i ∷ rest) ≡ i ∷ filter p rest = rw named refl in
    ap (λ (xs : List ℕ). first_failing (flat_map f (filter p xs))) (range_more n i lt)
    ∙ ap (λ (xs : List ℕ). first_failing (flat_map f xs)) here ∙ all_pass (f i) (flat_map f (filter p rest)) none

named_stops : (f : ℕ → List Check) (p : ℕ → Bool) (n i : ℕ) (r : Refusal) → i < n → p i ≡ true → first_failing (f i)
    ≡ Some r
    → first_failing (from_on f p n i) ≡ Some r
named_stops f p n i r lt named stops =
    let rest : List ℕ = range_with_len (i + 1) (n - (i + 1)) in
    let here : filter p (i ∷ rest) ≡ i ∷ filter p rest = rw named refl in
    ap (λ (xs : List ℕ). first_failing (flat_map f (filter p xs))) (range_more n i lt)
    ∙ ap (λ (xs : List ℕ). first_failing (flat_map f xs)) here ∙ one_fails (f i) (flat_map f (filter p rest)) r stops

other_more : (f : ℕ → List Check) (p : ℕ → Bool) (n i : ℕ) → i < n → p i ≡ false
    → first_failing (from_on f p n i) ≡ first_failing (from_on f p n (i + 1))
other_more f p n i lt other =
    let rest : List ℕ = range_with_len (i + 1) (n - (i + 1)) in
    let here : filter p (i ∷ rest) ≡ filter p rest = rw other refl in
    ap (λ (xs : List ℕ). first_failing (flat_map f (filter p xs))) (range_more n i lt)
    ∙ ap (λ (xs : List ℕ). first_failing (flat_map f xs)) here

pub no_more : (f : ℕ → List Check) (p : ℕ → Bool) (n i : ℕ) → n ≤ i → first_failing (from_on f p n i) ≡ None
unfolding first_failing
no_more f p n i le =
    let none : n - i ≡ 0 = omega (arith, le) in
    ap (λ (m : ℕ). first_failing (flat_map f (filter p (range_with_len i m)))) none

-- the checks of one if it is named

pub one_more : (f : ℕ → List Check) (p : ℕ → Bool) (n i : ℕ) (b : Bool) → i < n → b ≡ p i
    → first_failing (if b then f i else []) ≡ None
    → first_failing (from_on f p n i) ≡ first_failing (from_on f p n (i + 1))
one_more f p n i true lt is none = named_more f p n i lt (sym is) none
one_more f p n i false lt is none = other_more f p n i lt (sym is)

pub one_stops : (f : ℕ → List Check) (p : ℕ → Bool) (n i : ℕ) (r : Refusal) (b : Bool) → i < n → b ≡ p i
    → first_failing (if b then f i else []) ≡ Some r
    → first_failing (from_on f p n i) ≡ Some r
unfolding first_failing
one_stops f p n i r true lt is stops = named_stops f p n i r lt (sym is) stops
one_stops f p n i r false lt is stops = absurd (none-some r stops)

-- from the first one on are all
pub from_start : (f : ℕ → List Check) (p : ℕ → Bool) (n : ℕ)
    → first_failing (flat_map f (filter p (range_with_len 0 n))) ≡ first_failing (from_on f p n 0)
from_start f p n =
    let all : n ≡ n - 0 = omega arith in
    ap (λ (m : ℕ). first_failing (flat_map f (filter p (range_with_len 0 m)))) all

-- ---- those that are named

pub named_start : (items : List ActItem) (count : ℕ) (named : List Bool) → length named ≡ count → named
    ≡ replicate count false → AreNamed (take 0 items) count named
named_start items count named len is = record {
  len = len;
  each = λ attr lt. ap (λ (xs : List Bool). get_or xs attr false) is ∙ get_or-replicate count attr false false lt;
}

pub named_on : (items : List ActItem) (count i : ℕ) (item : ActItem) (named : List Bool) → i < length items → item
    ≡ get_or items i item
    → item.attr.0 < count → AreNamed (take i items) count named → AreNamed (take (i + 1) items) count
    (set named item.attr.0 true)
named_on items count i item named lt is within before = record {
  len = length-set named item.attr.0 true ∙ before.len;
  each = each;
}
  where
    more : (attr : ℕ) → is_item_named (take (i + 1) items) attr
        ≡ (is_item_named (take i items) attr || nat_eq item.attr.0 attr)
    more attr =
        list_any_more (λ (a : ActItem). nat_eq a.attr.0 attr) items i item lt
        ∙ ap (λ (a : ActItem). is_item_named (take i items) attr || nat_eq a.attr.0 attr) (sym is)

    each : (attr : ℕ) → attr < count → get_or (set named item.attr.0 true) attr false
        ≡ is_item_named (take (i + 1) items) attr
    each attr less = elim (cases_Bool (nat_eq item.attr.0 attr)) [
      | inl here ↦
          let same : item.attr.0 ≡ attr = eqb-true item.attr.0 attr here in
          let inside : item.attr.0 < length named = subst (λ (n : ℕ). item.attr.0 < n) (sym before.len) within in
          subst (λ (k : ℕ). get_or (set named item.attr.0 true) k false ≡ true) same
          (get_or-set_same named item.attr.0 true false inside)
          ∙ sym (more attr ∙ or_right (is_item_named (take i items) attr) (nat_eq item.attr.0 attr) here)
      | inr other ↦
          let apart : attr ≡ item.attr.0 → ⊥ = λ e. eqb-false item.attr.0 attr other (sym e) in
          get_or-set_other named item.attr.0 attr true false apart ∙ before.each attr less
          ∙ sym (more attr ∙ ap (λ (b : Bool). is_item_named (take i items) attr || b) other
          ∙ or-false (is_item_named (take i items) attr))
    ]

pub named_all : (items : List ActItem) (count i : ℕ) (named : List Bool) → length items ≤ i → AreNamed (take i items)
    count named → AreNamed items count named
named_all items count i named le before = subst (λ (xs : List ActItem). AreNamed xs count named) (take_all i items le)
    before

-- ---- the checks of one

abbrev many : List SchemaRecord → ℕ → List Held → Bool
many schema attr held = is_single schema attr && nat_lt 1 (length (stored_in held attr))

abbrev lacks : List SchemaRecord → ℕ → ℕ → List Held → Bool
lacks schema class attr held = is_lacking schema class attr (not (length (stored_in held attr) == 0))

abbrev three : Bool → Bool → Bool → List Check
three many allowed lacking = or_code (not many) 19 ∷ or_code allowed 65 ∷ or_code (not lacking) 65 ∷ []

pub attr_many : (schema : List SchemaRecord) (class : ℕ) (held : List Held) (attr count : ℕ)
    → count ≡ length (stored_in held attr) → (is_single schema attr && nat_lt 1 count) ≡ true
    → first_failing (final_checks schema class held attr) ≡ Some (code 19)
unfolding first_failing
attr_many schema class held attr count is e =
    let here : many schema attr held ≡ true = ap (λ (n : ℕ). is_single schema attr && nat_lt 1 n) (sym is) ∙ e in
    ap (λ (b : Bool). first_failing (three b (is_allowed schema class attr) (lacks schema class attr held))) here

few_many : (schema : List SchemaRecord) (held : List Held) (attr count : ℕ)
    → count ≡ length (stored_in held attr) → (is_single schema attr && nat_lt 1 count) ≡ false → many schema attr held
    ≡ false
few_many schema held attr count is e = ap (λ (n : ℕ). is_single schema attr && nat_lt 1 n) (sym is) ∙ e

pub attr_refused : (schema : List SchemaRecord) (class : ℕ) (held : List Held) (attr count : ℕ)
    → count ≡ length (stored_in held attr) → (is_single schema attr && nat_lt 1 count) ≡ false
    → is_allowed schema class attr ≡ false
    → first_failing (final_checks schema class held attr) ≡ Some (code 65)
unfolding first_failing
attr_refused schema class held attr count is e refused =
    ap (λ (b : Bool). first_failing (three b (is_allowed schema class attr) (lacks schema class attr held)))
    (few_many schema held attr count is e)
    ∙ ap (λ (b : Bool). first_failing (three false b (lacks schema class attr held))) refused

lacks_by : (schema : List SchemaRecord) (class : ℕ) (held : List Held) (attr count : ℕ) (b : Bool)
    → count ≡ length (stored_in held attr) → is_lacking schema class attr (not (count == 0)) ≡ b
    → lacks schema class attr held ≡ b
lacks_by schema class held attr count b is e = ap (λ (n : ℕ). is_lacking schema class attr (not (n == 0))) (sym is) ∙ e

pub attr_lacking : (schema : List SchemaRecord) (class : ℕ) (held : List Held) (attr count : ℕ)
    → count ≡ length (stored_in held attr) → (is_single schema attr && nat_lt 1 count) ≡ false
    → is_allowed schema class attr ≡ true
    → is_lacking schema class attr (not (count == 0)) ≡ true → first_failing (final_checks schema class held attr)
    ≡ Some (code 65)
unfolding first_failing
attr_lacking schema class held attr count is e allowed lacking =
    ap (λ (b : Bool). first_failing (three b (is_allowed schema class attr) (lacks schema class attr held)))
    (few_many schema held attr count is e)
    ∙ ap (λ (b : Bool). first_failing (three false b (lacks schema class attr held))) allowed
    ∙ ap (λ (b : Bool). first_failing (three false true b)) (lacks_by schema class held attr count true is lacking)

pub attr_fine : (schema : List SchemaRecord) (class : ℕ) (held : List Held) (attr count : ℕ)
    → count ≡ length (stored_in held attr) → (is_single schema attr && nat_lt 1 count) ≡ false
    → is_allowed schema class attr ≡ true
    → is_lacking schema class attr (not (count == 0)) ≡ false → first_failing (final_checks schema class held attr)
    ≡ None
unfolding first_failing
attr_fine schema class held attr count is e allowed there =
    ap (λ (b : Bool). first_failing (three b (is_allowed schema class attr) (lacks schema class attr held)))
    (few_many schema held attr count is e)
    ∙ ap (λ (b : Bool). first_failing (three false b (lacks schema class attr held))) allowed
    ∙ ap (λ (b : Bool). first_failing (three false true b)) (lacks_by schema class held attr count false is there)
