-- Sets that are joined place by place.
use Rattle.std.proofs.Common.{◌≡◌, ◌∙◌, ℕ, ◌+◌, ◌<◌, inl, inr, Bool, false, List, [], ◌∷◌, ◌++◌, length, ap, arith}
use Rattle.std.proofs.lemmas.Bool.{cases_lt}
use Rattle.std.proofs.lemmas.List.{get_or_push, length_push}
use Rattle.std.proofs.Math.ListN.{get_or-append}
use Rattle.ad_sets.specs.Told.{stands_in}
use Rattle.ad_sets.specs.Sets.{joins}

-- the places so far
pub record AreJoined (both : Bool) (set others : List Bool) (count : ℕ) (joined : List Bool) : Type 0 where
  pub size : length joined ≡ count
  pub each : (place : ℕ) → place < count
      → stands_in joined place ≡ joins both (stands_in set place) (stands_in others place)

pub one_more : (both : Bool) (set others joined : List Bool) (count : ℕ) (value : Bool)
    → AreJoined both set others count joined
    → value ≡ joins both (stands_in set count) (stands_in others count)
    → AreJoined both set others (count + 1) (joined ++ value ∷ [])
one_more both set others joined count value are is = record {
  size = length_push joined value ∙ ap (λ (n : ℕ). n + 1) are.size;
  each = λ place lt. elim (cases_lt place count) [
    | inl before ↦
        get_or-append joined (value ∷ []) false place (omega (arith, before, are.size)) ∙ are.each place before
    | inr past ↦
        let at : length joined ≡ place = omega (arith, past, lt, are.size) in
        let here : count ≡ place = omega (arith, past, lt) in
        get_or_push joined value false place at ∙ is
        ∙ ap (λ (n : ℕ). joins both (stands_in set n) (stands_in others n)) here
  ];
}
