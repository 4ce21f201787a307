-- How the fields of a security identifier represent it.
use Rattle.std.specs.Prelude.{◌≡◌, ℕ, ◌-◌, ◌^◌, ◌<◌, ◌≤◌, List, ◌++◌, length, take, drop, replicate}
use Rattle.std.proofs.Common.{ap, sym, ◌∙◌, arith}
use Rattle.std.proofs.lemmas.List.{length-take, take-append-drop}
use Rattle.ad_ids.specs.declared.sid.Sid.TheInside.{Inside}
use Rattle.ad_ids.specs.SidValue.{SidValue}

abbrev pub value_of : Inside → SidValue
value_of s = record { authority = s.authority; sub_authorities = take s.count s.places }

-- after the sub-authorities stand zeros
pub record IsPadded (s : Inside) : Type 0 where
  pub authority : s.authority < 2 ^ 48
  pub at_least_one : 1 ≤ s.count
  pub at_most_15 : s.count ≤ 15
  pub places : length s.places ≡ 15
  pub padded : drop s.count s.places ≡ replicate (15 - s.count) 0

abbrev pub fields_of : SidValue → Inside
fields_of v = record {
  authority = v.authority;
  count = length v.sub_authorities;
  places = v.sub_authorities ++ replicate (15 - length v.sub_authorities) 0;
}

pub fields_of-value_of : (s : Inside) → IsPadded s → fields_of (value_of s) ≡ s
fields_of-value_of s h =
    let count : length (take s.count s.places) ≡ s.count
    = omega (arith, length-take s.count s.places, h.places, h.at_most_15) in
    let places : take s.count s.places ++ replicate (15 - length (take s.count s.places)) 0
    ≡ s.places = ap (λ (n : ℕ). take s.count s.places ++ replicate (15 - n) 0) count
    ∙ ap (λ (xs : List ℕ). take s.count s.places ++ xs) (sym h.padded) ∙ take-append-drop s.count s.places in
    ap (λ (n : ℕ). fields n (take s.count s.places ++ replicate (15 - length (take s.count s.places)) 0)) count
    ∙ ap (λ (xs : List ℕ). fields s.count xs) places
  where
    fields : ℕ → List ℕ → Inside
    fields n xs = record { authority = s.authority; count = n; places = xs }
