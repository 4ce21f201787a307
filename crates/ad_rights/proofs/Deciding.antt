-- What is decided of a token, step by step.
use Rattle.std.proofs.Common.{◌≡◌, ◌∙◌, ℕ, ◌<◌, ◌≤◌, ◌⊎◌, inl, inr, Bool, true, false, ◌||◌, Option, Some, None}
use Rattle.std.proofs.Common.{List, length, set, refl, sym, ap, arith}
use Rattle.std.specs.Prelude.{◌==◌, ◌&&◌, if◌then◌else◌, unwrap_or, is_some}
use Rattle.std.proofs.lemmas.Bool.{cases_eq, eq-eqb, ne_eqb, false≢true}
use Rattle.std.proofs.lemmas.List.{get_or-set_same, get_or-set_other}
use Rattle.ad_rights.specs.Standing.{stand_at, decided, by_privilege}

-- ---- one stand

pub decided_none : (allow : Bool) (stand : Option Bool) → decided false allow stand ≡ stand
decided_none allow None = refl
decided_none allow (Some granted) = refl

pub decided_twice : (a b allow : Bool) (stand : Option Bool) → decided b allow (decided a allow stand)
    ≡ decided (a || b) allow stand
decided_twice a b allow (Some granted) = refl
decided_twice true b allow None = refl
decided_twice false b allow None = refl

-- with what is still to come, one decision is a step of the rule
pub decided_step : (counts allow others : Bool) (stand : Option Bool) → unwrap_or (decided counts allow stand) others
    ≡ unwrap_or stand (if counts then allow else others)
decided_step counts allow others (Some granted) = refl
decided_step true allow others None = refl
decided_step false allow others None = refl

-- by privilege, as the owner, and else as the entries have it
pub begun : (counts takes owned by_entries : Bool) → unwrap_or (decided owned true (by_privilege counts takes)) by_entries
    ≡ (if counts && takes then true else (owned || by_entries))
begun true true owned by_entries = refl
begun true false true by_entries = refl
begun true false false by_entries = refl
begun false true true by_entries = refl
begun false true false by_entries = refl
begun false false true by_entries = refl
begun false false false by_entries = refl

-- ---- one place of a list

apart_stays : (stands : List (Option Bool)) (place q : ℕ) (allow : Bool) → (place ≡ q → ⊥) → stand_at stands q
    ≡ decided (place == q) allow (stand_at stands q)
apart_stays stands place q allow apart =
    sym (ap (λ (b : Bool). decided b allow (stand_at stands q)) (ne_eqb place q apart)
    ∙ decided_none allow (stand_at stands q))

pub not_there : (stands : List (Option Bool)) (place q : ℕ) (allow : Bool) → length stands ≤ place → q < length stands
    → stand_at stands q ≡ decided (place == q) allow (stand_at stands q)
not_there stands place q allow past lt = apart_stays stands place q allow
    (λ (e : place ≡ q). omega (arith, e, past, lt))

settled : (counts allow : Bool) (stand : Option Bool) → is_some stand ≡ true → stand ≡ decided counts allow stand
settled counts allow None is = absurd (false≢true is)
settled counts allow (Some granted) is = refl

pub not_open : (stands : List (Option Bool)) (place q : ℕ) (allow : Bool) → is_some (stand_at stands place) ≡ true
    → stand_at stands q ≡ decided (place == q) allow (stand_at stands q)
not_open stands place q allow is = elim (cases_eq place q) [
  | inl at ↦ settled (place == q) allow (stand_at stands q)
      (sym (ap (λ (n : ℕ). is_some (stand_at stands n)) at) ∙ is)
  | inr apart ↦ apart_stays stands place q allow apart
]

opened : (allow : Bool) (stand : Option Bool) → is_some stand ≡ false → Some allow ≡ decided true allow stand
opened allow None is = refl
opened allow (Some granted) is = absurd (false≢true (sym is))

pub is_set : (stands : List (Option Bool)) (place q : ℕ) (allow : Bool) → is_some (stand_at stands place) ≡ false
    → place < length stands → stand_at (set stands place (Some allow)) q
    ≡ decided (place == q) allow (stand_at stands q)
is_set stands place q allow is lt = elim (cases_eq place q) [
  | inl at ↦ ap (stand_at (set stands place (Some allow))) (sym at)
      ∙ get_or-set_same stands place (Some allow) None lt
      ∙ opened allow (stand_at stands place) is
      ∙ ap (λ (b : Bool). decided b allow (stand_at stands place)) (sym (eq-eqb place q at))
      ∙ ap (λ (n : ℕ). decided (place == q) allow (stand_at stands n)) at
  | inr apart ↦ get_or-set_other stands place q (Some allow) None (λ (e : q ≡ place). apart (sym e))
      ∙ apart_stays stands place q allow apart
]
