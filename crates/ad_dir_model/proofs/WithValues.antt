-- The values of an object with those of one attribute replaced.
use Rattle.std.proofs.Common.{◌≡◌, ℕ, zero, suc, ◌+◌, ◌<◌, ◌≤◌, Bool, true, false, List, [], ◌∷◌, ◌++◌, Option, Some}
use Rattle.std.proofs.Common.{None, ◌⊎◌, inl, inr, refl, sym, subst, ap, arith, ◌∙◌}
use Rattle.std.specs.Prelude.{nat_eq, nat_lt, if◌then◌else◌, filter_map, find}
use Rattle.std.specs.List.{AllByRecursion, flat_map}
use Rattle.std.specs.Option.{option_map_or}
use Rattle.std.proofs.lemmas.Bool.{eqb-true, eqb-false, ne_eqb, eq-eqb, ltb-true, ltb-false, cases_Bool}
use Rattle.ad_schema.specs.declared.line.SchemaRecord.{SchemaRecord}
use Rattle.ad_dir_model.specs.Object.{Stored, Held, is_held, stored_in, linked, links_in}
use Rattle.ad_dir_model.specs.Changes.{with_values}
use Rattle.ad_dir_model.specs.Weight.{held_weight, all_held_weight}
use Rattle.ad_dir_model.specs.Soundness.{AttrsRiseFrom}
use Rattle.ad_dir_model.proofs.Unlinking.{all_append, all_front}

abbrev pub held_of : ℕ → List Stored → Held
held_of attr values = record { attr = attr; values = values }

pub stored_same : (attr : ℕ) (new : List Stored) (values : List Held) → stored_in (with_values attr new values) attr
    ≡ new
unfolding stored_in with_values
stored_same attr new [] = rw (eq-eqb attr attr refl) refl
stored_same attr new (h ∷ hs) =
    elim (cases_Bool (nat_eq h.attr attr)) [
      | inl same ↦ rw (same, eq-eqb attr attr refl) refl
      | inr differ ↦ elim (cases_Bool (nat_lt attr h.attr)) [
        | inl less ↦ rw (differ, less, eq-eqb attr attr refl) refl
        | inr more ↦ rw (differ, more, differ) (stored_same attr new hs)
      ]
    ]

pub stored_other : (attr other : ℕ) (new : List Stored) (values : List Held) → (attr ≡ other → ⊥)
    → stored_in (with_values attr new values) other ≡ stored_in values other
unfolding stored_in with_values
stored_other attr other new [] apart = rw (ne_eqb attr other apart) refl
stored_other attr other new (h ∷ hs) apart =
    elim (cases_Bool (nat_eq h.attr attr)) [
      | inl same ↦
          let is : h.attr ≡ attr = eqb-true h.attr attr same in
          let differ : h.attr ≡ other → ⊥ = λ (e : h.attr ≡ other). apart (sym is ∙ e) in
          rw (same, ne_eqb attr other apart, ne_eqb h.attr other differ) refl
      | inr differ ↦ elim (cases_Bool (nat_lt attr h.attr)) [
        | inl less ↦ rw (differ, less, ne_eqb attr other apart) refl
        | inr more ↦ elim (cases_Bool (nat_eq h.attr other)) [
          | inl here ↦ rw (differ, more, here) refl
          | inr further ↦ rw (differ, more, further) (stored_other attr other new hs apart)
        ]
      ]
    ]

pub rise_with : (attr : ℕ) (new : List Stored) (least : ℕ) (values : List Held) → AttrsRiseFrom least values → least
    ≤ attr → AttrsRiseFrom least (with_values attr new values)
unfolding with_values
rise_with attr new least [] rise le = (le, tt)
rise_with attr new least (h ∷ hs) rise le =
    elim (cases_Bool (nat_eq h.attr attr)) [
      | inl same ↦ rw same (le, subst (λ (n : ℕ). AttrsRiseFrom (suc n) hs) (eqb-true h.attr attr same) rise.1)
      | inr differ ↦ elim (cases_Bool (nat_lt attr h.attr)) [
        | inl less ↦ rw (differ, less) (le, (ltb-true attr h.attr less, rise.1))
        | inr more ↦
            let apart : h.attr ≡ attr → ⊥ = eqb-false h.attr attr differ in
            let most : h.attr ≤ attr = ltb-false attr h.attr more in
            let above : suc h.attr ≤ attr = omega arith in
            rw (differ, more) (rise.0, rise_with attr new (suc h.attr) hs rise.1 above)
      ]
    ]

pub each_with : (P : Held → Type 0) (attr : ℕ) (new : List Stored) (values : List Held) → P (held_of attr new)
    → AllByRecursion P values → AllByRecursion P (with_values attr new values)
unfolding with_values
each_with P attr new [] here all = (here, tt)
each_with P attr new (h ∷ hs) here all =
    elim (cases_Bool (nat_eq h.attr attr)) [
      | inl same ↦ rw same (here, all.1)
      | inr differ ↦ elim (cases_Bool (nat_lt attr h.attr)) [
        | inl less ↦ rw (differ, less) (here, all)
        | inr more ↦ rw (differ, more) (all.0, each_with P attr new hs here all.1)
      ]
    ]

pub links_with : (P : ℕ → Type 0) (attr : ℕ) (new : List Stored) (values : List Held)
    → AllByRecursion P (filter_map linked new) → AllByRecursion P (links_in values)
    → AllByRecursion P (links_in (with_values attr new values))
unfolding with_values links_in
links_with P attr new [] here all = all_append P (filter_map linked new) [] here tt
links_with P attr new (h ∷ hs) here all =
    let parts = all_front P (filter_map linked h.values) (links_in hs) all in
    elim (cases_Bool (nat_eq h.attr attr)) [
      | inl same ↦ rw same (all_append P (filter_map linked new) (links_in hs) here parts.1)
      | inr differ ↦ elim (cases_Bool (nat_lt attr h.attr)) [
        | inl less ↦ rw (differ, less) (all_append P (filter_map linked new) (links_in (h ∷ hs)) here all)
        | inr more ↦ rw (differ, more) (all_append P (filter_map linked h.values) (links_in (with_values attr new hs))
            parts.0 (links_with P attr new hs here parts.1))
      ]
    ]

-- values that weigh nothing make nothing heavier
pub weight_with : (schema : List SchemaRecord) (attr : ℕ) (new : List Stored) (values : List Held)
    → held_weight schema (held_of attr new) ≡ 0 → all_held_weight schema (with_values attr new values)
    ≤ all_held_weight schema values
unfolding with_values all_held_weight
weight_with schema attr new [] none = omega arith
weight_with schema attr new (h ∷ hs) none =
    elim (cases_Bool (nat_eq h.attr attr)) [
      | inl same ↦ rw same (omega arith)
      | inr differ ↦ elim (cases_Bool (nat_lt attr h.attr)) [
        | inl less ↦ rw (differ, less) (omega arith)
        | inr more ↦
            let rest : all_held_weight schema (with_values attr new hs) ≤ all_held_weight schema hs
            = weight_with schema attr new hs none in
            rw (differ, more) (omega arith)
      ]
    ]
