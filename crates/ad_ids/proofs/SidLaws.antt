-- Two identifiers are one exactly where the test says so, and places that are filled from the left.
use Rattle.std.proofs.Common.{◌≡◌, ℕ, ◌+◌, ◌-◌, ◌<◌, true, false, List, take, drop, get_or, set, replicate, sym, ap}
use Rattle.std.proofs.Common.{◌∙◌, arith, inl, inr}
use Rattle.std.specs.Prelude.{nat_eq}
use Rattle.std.specs.Str.{bytes_eq}
use Rattle.std.proofs.lemmas.Bool.{eqb-true, cases_Bool}
use Rattle.std.specs.Bool.{Decides}
use Rattle.std.proofs.lemmas.List.{get_or-take, drop-set-lt, drop-drop, drop-replicate}
use Rattle.std.proofs.lemmas.Slice.Eq.{bytes_eq-Decides}
use Rattle.ad_bytes.proofs.Steps.{both_true}
use Rattle.ad_ids.specs.declared.sid.Sid.TheInside.{Inside}
use Rattle.ad_ids.specs.SidFields.{value_of, IsPadded, fields_of, fields_of-value_of}
use Rattle.ad_ids.specs.SidValue.{SidValue, same_sid, same_sid_laws}

abbrev sid : ℕ → List ℕ → SidValue
sid n xs = record { authority = n; sub_authorities = xs }

-- the test tells whether two identifiers are one
pub same_sid-Decides : (a b : SidValue) → Decides (same_sid a b) (a ≡ b)
same_sid-Decides a b = (same, λ e. ap (λ (s : SidValue). same_sid a s) (sym e) ∙ same_sid_laws.refl a)
  where
    same : same_sid a b ≡ true → a ≡ b
    same e =
        let both : (nat_eq a.authority b.authority ≡ true) × (bytes_eq a.sub_authorities b.sub_authorities ≡ true)
        = both_true (nat_eq a.authority b.authority) (bytes_eq a.sub_authorities b.sub_authorities) e in
        let authority : a.authority ≡ b.authority = eqb-true a.authority b.authority both.0 in
        let others : a.sub_authorities ≡ b.sub_authorities = (bytes_eq-Decides a.sub_authorities b.sub_authorities).0
        both.1 in
        ap (λ (n : ℕ). sid n a.sub_authorities) authority ∙ ap (λ (xs : List ℕ). sid b.authority xs) others

not_same : (a b : SidValue) → (a ≡ b → ⊥) → false ≡ same_sid a b
not_same a b differ = elim (cases_Bool (same_sid a b))
    [ inl same ↦ absurd (differ ((same_sid-Decides a b).0 same)) | inr apart ↦ sym apart ]

-- a place below the count that differs tells two identifiers apart
pub other_place : (a b : Inside) (v w : SidValue) (k : ℕ) → value_of a ≡ v → value_of b ≡ w → k < a.count → a.count
    ≡ b.count → (get_or a.places k 0 ≡ get_or b.places k 0 → ⊥) → false ≡ same_sid v w
other_place a b v w k va wb lt count differ =
    not_same v w (λ (e : v ≡ w). differ (sym (get_or-take a.count a.places k 0 lt)
    ∙ ap (λ (s : SidValue). get_or s.sub_authorities k 0) (va ∙ e ∙ sym wb) ∙ get_or-take b.count b.places k 0
    (omega arith)))

-- where authority and count are one, the places decide
pub same_places : (a b : Inside) (v w : SidValue) → value_of a ≡ v → value_of b ≡ w → IsPadded a → IsPadded b
    → a.count ≡ b.count → a.authority ≡ b.authority → bytes_eq a.places b.places ≡ same_sid v w
same_places a b v w va wb pa pb count authority =
    elim (cases_Bool (bytes_eq a.places b.places)) [
      | inl same ↦
          let places : a.places ≡ b.places = (bytes_eq-Decides a.places b.places).0 same in
          let one : v ≡ w = sym va ∙ ap (λ (n : ℕ). sid n (take a.count a.places)) authority
          ∙ ap (λ (n : ℕ). sid b.authority (take n a.places)) count
          ∙ ap (λ (xs : List ℕ). sid b.authority (take b.count xs)) places ∙ wb in
          same ∙ sym ((same_sid-Decides v w).1 one)
      | inr apart ↦
          apart ∙ not_same v w (λ (e : v ≡ w).
          let inside : a ≡ b = sym (fields_of-value_of a pa) ∙ ap fields_of (va ∙ e ∙ sym wb)
          ∙ fields_of-value_of b pb in
          let places : a.places ≡ b.places = ap (λ (i : Inside). i.places) inside in
          let same : bytes_eq a.places b.places ≡ true = (bytes_eq-Decides a.places b.places).1 places in
          absurd cc)
    ]

-- one more place is filled, and zeros are still after it
pub padded_more : (places : List ℕ) (i x : ℕ) → i < 15 → drop i places ≡ replicate (15 - i) 0
    → drop (i + 1) (set places i x) ≡ replicate (15 - (i + 1)) 0
padded_more places i x lt padded =
    let shorter : (15 - i) - 1 ≡ 15 - (i + 1) = omega arith in
    drop-set-lt (i + 1) places i x (omega arith)
    ∙ sym (drop-drop 1 i places)
    ∙ ap (drop 1) padded
    ∙ drop-replicate 1 (15 - i) 0
    ∙ ap (λ (n : ℕ). replicate n 0) shorter
