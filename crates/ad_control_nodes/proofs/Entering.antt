-- One node more takes its place.
use Rattle.std.proofs.Common.{◌≡◌, ◌∙◌, ℕ, zero, suc, ◌⊎◌, Bool, true, false, Option, Some, List, [], ◌∷◌, ◌++◌, inl, inr, refl}
use Rattle.std.proofs.Common.{sym, ap, cond, length}
use Rattle.std.specs.Prelude.{slice_get, nat_eq}
use Rattle.std.proofs.lemmas.Bool.{cases_Bool, eqb-true, eqb-false, both_ways}
use Rattle.std.proofs.lemmas.Option.{same_Some, none-some}
use Rattle.ad_ids.specs.SidValue.{SidValue, same_sid, same_sid_laws}
use Rattle.ad_principals.proofs.Rising.{one_sid}
use Rattle.ad_control_graph.specs.declared.node.Node.{Node}
use Rattle.ad_control_graph.specs.declared.node.Node.TheVariants.{Object, Identifier}
use Rattle.ad_control_nodes.specs.Steps.{AreAt}
use Rattle.ad_control_nodes.proofs.Lists.{front}

last : (done : List Node) (node : Node) → slice_get (done ++ node ∷ []) (length done) ≡ Some node
last [] node = refl
last (n ∷ done) node = last done node

before_or_last : (done : List Node) (node other : Node) (place : ℕ) → slice_get (done ++ node ∷ []) place ≡ Some other
    → (slice_get done place ≡ Some other) ⊎ (other ≡ node)
before_or_last [] node other zero is = inr (sym (same_Some node other is))
before_or_last [] node other (suc place) is = absurd (none-some other is)
before_or_last (n ∷ done) node other zero is = inl is
before_or_last (n ∷ done) node other (suc place) is = before_or_last done node other place is

-- what a key finds, after a value was put to another one or to itself
put_own : {K : Type 0} (new old : K → Option ℕ) (same : K → Bool) (value : ℕ) (key : K)
    → ((q : K) → new q ≡ cond (same q) (Some value) (old q)) → same key ≡ true → new key ≡ Some value
put_own new old same value key updates is = updates key ∙ ap (λ (b : Bool). cond b (Some value) (old key)) is

put_other : {K : Type 0} (new old : K → Option ℕ) (same : K → Bool) (value : ℕ) (key : K)
    → ((q : K) → new q ≡ cond (same q) (Some value) (old q)) → same key ≡ false → new key ≡ old key
put_other new old same value key updates is = updates key ∙ ap (λ (b : Bool). cond b (Some value) (old key)) is

same_object : (n m : ℕ) → Object n ≡ Object m → n ≡ m
same_object n m is = cc

same_identifier : (s t : SidValue) → Identifier s ≡ Identifier t → s ≡ t
same_identifier s t is = cc

no_object : (s : SidValue) (n : ℕ) → Identifier s ≡ Object n → ⊥
no_object s n is = cc

-- ---- an object

module _ (done : List Node) (number : ℕ) (objects new : ℕ → Option ℕ) (sids : SidValue → Option ℕ)
    (at : AreAt done objects sids)
    (updates : (q : ℕ) → new q ≡ cond (nat_eq number q) (Some (length done)) (objects q)) where
  object_found : (q place : ℕ) → new q ≡ Some place → slice_get (done ++ Object number ∷ []) place ≡ Some (Object q)
  object_found q place is = elim (cases_Bool (nat_eq number q)) [
    | inl own ↦
        let here : length done ≡ place = same_Some (length done) place
        (sym (put_own new objects (nat_eq number) (length done) q updates own) ∙ is) in
        ap (slice_get (done ++ Object number ∷ [])) (sym here) ∙ last done (Object number)
        ∙ ap (λ (n : ℕ). Some (Object n)) (eqb-true number q own)
    | inr other ↦ front done (Object number ∷ []) place (Object q) (at.objects q place
        (sym (put_other new objects (nat_eq number) (length done) q updates other) ∙ is))
  ]

  object_each : (place q : ℕ) → slice_get (done ++ Object number ∷ []) place ≡ Some (Object q)
      → (found : ℕ) × (new q ≡ Some found)
  object_each place q is = elim (cases_Bool (nat_eq number q)) [
    | inl own ↦ (length done, put_own new objects (nat_eq number) (length done) q updates own)
    | inr other ↦ elim (before_or_last done (Object number) (Object q) place is) [
      | inl before ↦
          let found = at.each_object place q before in
          (found.0, put_other new objects (nat_eq number) (length done) q updates other ∙ found.1)
      | inr here ↦ absurd (eqb-false number q other (sym (same_object q number here)))
    ]
  ]

  sid_still : (place : ℕ) (sid : SidValue) → slice_get (done ++ Object number ∷ []) place ≡ Some (Identifier sid)
      → (found : ℕ) × (sids sid ≡ Some found)
  sid_still place sid is = elim (before_or_last done (Object number) (Identifier sid) place is) [
    | inl before ↦ at.each_sid place sid before
    | inr here ↦ absurd (no_object sid number here)
  ]

  with_object : AreAt (done ++ Object number ∷ []) new sids
  with_object = record {
    objects = object_found;
    each_object = object_each;
    sids = λ sid place is. front done (Object number ∷ []) place (Identifier sid) (at.sids sid place is);
    each_sid = sid_still;
  }

-- ---- an identifier

module _ (done : List Node) (sid : SidValue) (objects : ℕ → Option ℕ) (sids new : SidValue → Option ℕ)
    (at : AreAt done objects sids)
    (updates : (q : SidValue) → new q ≡ cond (same_sid sid q) (Some (length done)) (sids q)) where
  sid_found : (q : SidValue) (place : ℕ) → new q ≡ Some place
      → slice_get (done ++ Identifier sid ∷ []) place ≡ Some (Identifier q)
  sid_found q place is = elim (cases_Bool (same_sid sid q)) [
    | inl own ↦
        let here : length done ≡ place = same_Some (length done) place
        (sym (put_own new sids (same_sid sid) (length done) q updates own) ∙ is) in
        ap (slice_get (done ++ Identifier sid ∷ [])) (sym here) ∙ last done (Identifier sid)
        ∙ ap (λ (s : SidValue). Some (Identifier s)) (one_sid sid q own)
    | inr other ↦ front done (Identifier sid ∷ []) place (Identifier q) (at.sids q place
        (sym (put_other new sids (same_sid sid) (length done) q updates other) ∙ is))
  ]

  sid_each : (place : ℕ) (q : SidValue) → slice_get (done ++ Identifier sid ∷ []) place ≡ Some (Identifier q)
      → (found : ℕ) × (new q ≡ Some found)
  sid_each place q is = elim (cases_Bool (same_sid sid q)) [
    | inl own ↦ (length done, put_own new sids (same_sid sid) (length done) q updates own)
    | inr other ↦ elim (before_or_last done (Identifier sid) (Identifier q) place is) [
      | inl before ↦
          let found = at.each_sid place q before in
          (found.0, put_other new sids (same_sid sid) (length done) q updates other ∙ found.1)
      | inr here ↦ absurd (both_ways (same_sid sid q) other
          (ap (same_sid sid) (same_identifier q sid here) ∙ same_sid_laws.refl sid))
    ]
  ]

  object_still : (place q : ℕ) → slice_get (done ++ Identifier sid ∷ []) place ≡ Some (Object q)
      → (found : ℕ) × (objects q ≡ Some found)
  object_still place q is = elim (before_or_last done (Identifier sid) (Object q) place is) [
    | inl before ↦ at.each_object place q before
    | inr here ↦ absurd (no_object sid q (sym here))
  ]

  with_sid : AreAt (done ++ Identifier sid ∷ []) objects new
  with_sid = record {
    objects = λ q place is. front done (Identifier sid ∷ []) place (Object q) (at.objects q place is);
    each_object = object_still;
    sids = sid_found;
    each_sid = sid_each;
  }

pub object_more : (done : List Node) (number : ℕ) (objects new : ℕ → Option ℕ) (sids : SidValue → Option ℕ)
    → AreAt done objects sids → ((q : ℕ) → new q ≡ cond (nat_eq number q) (Some (length done)) (objects q))
    → AreAt (done ++ Object number ∷ []) new sids
object_more = with_object

pub sid_more : (done : List Node) (sid : SidValue) (objects : ℕ → Option ℕ) (sids new : SidValue → Option ℕ)
    → AreAt done objects sids → ((q : SidValue) → new q ≡ cond (same_sid sid q) (Some (length done)) (sids q))
    → AreAt (done ++ Identifier sid ∷ []) objects new
sid_more = with_sid
