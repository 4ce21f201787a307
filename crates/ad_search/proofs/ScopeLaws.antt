-- The objects right below a base are its children, and those of its subtree are the base and what stands below it.
use Rattle.std.proofs.Common.{◌≡◌, ℕ, zero, suc, ◌<◌, ◌≤◌, Bool, true, false, ◌||◌, List, [], ◌∷◌, length, inl, inr}
use Rattle.std.proofs.Common.{refl, sym, subst, ap, ◌∙◌, arith}
use Rattle.std.specs.Prelude.{nat_eq, ◌==◌, if◌then◌else◌}
use Rattle.std.proofs.lemmas.Bool.{cases_Bool, eqb-true, eqb-false, eq-eqb, ne_eqb, both_ways, and_parts}
use Rattle.std.proofs.lemmas.Option.{same_Some}
use Rattle.ad_dn.specs.declared.rdn.Rdn.{Rdn}
use Rattle.ad_dir_model.specs.Limits.{max_depth}
use Rattle.ad_dir_model.specs.Objects.{is_live, object_at}
use Rattle.ad_dir_model.specs.Tree.{root, IsAtDepth, IsPlaced, is_below_within, is_below}
use Rattle.ad_dir_model.specs.Directory.{Directory, parents}
use Rattle.ad_dir_model.specs.Names.{rdn_of, rdns_within, rdns_of, same_rdn}
use Rattle.ad_dir_model.specs.Changes.{goes_with}
use Rattle.ad_search.specs.Scope.{same_rdns, is_right_below, is_at_or_below, in_scope}
use Rattle.ad_search.proofs.FoundLaws.{Stands, named_found, parent_live}
use Rattle.ad_search.proofs.NameLaws.{too_short}
use Rattle.ad_entries.proofs.ListLaws.{both_true}

same_length : (a b : List Rdn) → same_rdns a b ≡ true → length a ≡ length b
unfolding same_rdns
same_length [] [] all = refl
same_length [] (b ∷ bs) all = absurd (both_ways false refl all)
same_length (a ∷ as') [] all = absurd (both_ways false refl all)
same_length (a ∷ as') (b ∷ bs) all = ap (λ (n : ℕ). suc n)
    (same_length as' bs (and_parts (same_rdn a b) (same_rdns as' bs) all).1)

-- ---- names of objects so deep

-- as many parts as there are, whatever the limit
levels_alike : (dir : Directory) (d l k n : ℕ) → IsAtDepth (parents dir) d n → d < l → d < k → rdns_within dir l n
    ≡ rdns_within dir k n
unfolding rdns_within
levels_alike dir d zero k n at less more = absurd (omega (arith, less))
levels_alike dir d (suc l) zero n at less more = absurd (omega (arith, more))
levels_alike dir zero (suc l) (suc k) n at less more = rw (eq-eqb n root at) refl
levels_alike dir (suc d) (suc l) (suc k) n at less more =
    rw (ne_eqb n root at.0) (ap (λ (rdns : List Rdn). rdn_of dir.schema (object_at dir.objects n) ∷ rdns)
    (levels_alike dir d l k (parents dir n) at.1 (omega (arith, less)) (omega (arith, more))))

-- a name has more parts than the suffix
beyond_suffix : (dir : Directory) (d levels n : ℕ) → IsAtDepth (parents dir) d n → d < levels → length dir.meta.suffix
    < length (rdns_within dir levels n)
unfolding rdns_within
beyond_suffix dir d zero n at less = absurd (omega (arith, less))
beyond_suffix dir zero (suc levels) n at less = rw (eq-eqb n root at) (omega arith)
beyond_suffix dir (suc d) (suc levels) n at less =
    rw (ne_eqb n root at.0) (omega (arith, beyond_suffix dir d levels (parents dir n) at.1 (omega (arith, less))))

-- An object whose name is that of one right below the base is a child of it.
pub right_below : (dir : Directory) (base : List Rdn) (n m : ℕ) → Stands dir → is_live dir.objects n ≡ true
    → same_rdns (rdns_of dir n) base ≡ true → is_live dir.objects m ≡ true
    → is_right_below base (rdns_of dir m) ≡ true → parents dir m ≡ n
unfolding rdns_of rdns_within
right_below dir base n m stands live same other below = elim (cases_Bool (nat_eq m root)) [
  | inl here ↦ absurd (at_root here)
  | inr down ↦ by_depth down (stands.placed m other).depth (stands.placed m other).within (stands.placed m other).chain
]
  where
    parent : ℕ
    parent = parents dir m

    rest : Bool → List Rdn
    rest b = if b then dir.meta.suffix else rdns_within dir max_depth parent

    at_root : nat_eq m root ≡ true → ⊥
    at_root here =
        let suffix : same_rdns dir.meta.suffix base ≡ true = sym (ap (λ (b : Bool). same_rdns (rest b) base) here)
        ∙ below in
        let placed : IsPlaced (parents dir) n = stands.placed n live in
        let within : placed.depth ≤ max_depth = placed.within in
        let more = beyond_suffix dir placed.depth (suc max_depth) n placed.chain (omega (arith, within)) in
        omega (
          arith,
          more,
          same_length dir.meta.suffix base suffix,
          same_length (rdns_within dir (suc max_depth) n)
              base same,
        )

    by_depth : nat_eq m root ≡ false → (d : ℕ) → d ≤ max_depth → IsAtDepth (parents dir) d m → parent ≡ n
    by_depth down zero within at = absurd (eqb-false m root down at)
    by_depth down (suc d) within at =
        let named : same_rdns (rdns_within dir max_depth parent) base ≡ true
        = sym (ap (λ (b : Bool). same_rdns (rest b) base) down) ∙ below in
        let whole : rdns_within dir max_depth parent ≡ rdns_within dir (suc max_depth) parent
        = levels_alike dir d max_depth (suc max_depth) parent at.1 (omega (arith, within)) (omega (arith, within))
        in
        same_Some parent n (sym (named_found dir parent base stands (parent_live dir m stands other at.0)
        (subst (λ (rdns : List Rdn). same_rdns rdns base ≡ true) whole named)) ∙ named_found dir n base stands
        live same)

-- ---- at any depth

or_true : (a b : Bool) → b ≡ true → (a || b) ≡ true
or_true true b is = refl
or_true false b is = is

or_left : (a b : Bool) → a ≡ true → (a || b) ≡ true
or_left a b is = ap (λ (c : Bool). c || b) is

module _ (dir : Directory) (base : List Rdn) (n : ℕ) (stands : Stands dir) (live : is_live dir.objects n ≡ true)
    (same : same_rdns (rdns_of dir n) base ≡ true) where
  -- the base has more parts than the suffix
  longer : length dir.meta.suffix < length base
  unfolding rdns_of
  longer =
      let placed : IsPlaced (parents dir) n = stands.placed n live in
      let within : placed.depth ≤ max_depth = placed.within in
      let more = beyond_suffix dir placed.depth (suc max_depth) n placed.chain (omega (arith, within)) in
      omega (arith, more, same_length (rdns_within dir (suc max_depth) n) base same)

  -- no other object has its name
  it_is : (d l m : ℕ) → is_live dir.objects m ≡ true → IsAtDepth (parents dir) d m → d < l → d ≤ max_depth
      → same_rdns (rdns_within dir l m) base ≡ true → m ≡ n
  unfolding rdns_of
  it_is d l m other at less within is =
      let whole : rdns_within dir l m ≡ rdns_within dir (suc max_depth) m = levels_alike dir d l (suc max_depth) m at
      less (omega (arith, within)) in
      same_Some m n (sym (named_found dir m base stands other
      (subst (λ (rdns : List Rdn). same_rdns rdns base ≡ true) whole is)) ∙ named_found dir n base stands live
      same)

  climbs : (d l k m : ℕ) → is_live dir.objects m ≡ true → IsAtDepth (parents dir) d m → d < l → d ≤ k → d ≤ max_depth
      → is_at_or_below base (rdns_within dir l m) ≡ true
      → ((m == n) || is_below_within (parents dir) k n m) ≡ true
  unfolding rdns_within is_at_or_below is_below_within
  climbs d zero k m other at less deep within below = absurd (omega (arith, less))
  climbs zero (suc l) k m other at less deep within below
      = elim (cases_Bool (same_rdns (rdns_within dir (suc l) m) base)) [
        | inl here ↦ rw (eq-eqb m n (it_is zero (suc l) m other at less within here)) refl
        | inr shorter ↦ absurd (both_ways (is_at_or_below base dir.meta.suffix) (too_short base dir.meta.suffix longer)
            (rw (shorter, eq-eqb m root at) at below))
      ]
  climbs (suc d) (suc l) zero m other at less deep within below = absurd (omega (arith, deep))
  climbs (suc d) (suc l) (suc k) m other at less deep within below
      = elim (cases_Bool (same_rdns (rdns_within dir (suc l) m) base)) [
        | inl here ↦ rw (eq-eqb m n (it_is (suc d) (suc l) m other at less within here)) refl
        | inr shorter ↦
            let up = climbs d l k (parents dir m) (parent_live dir m stands other at.0) at.1 (omega (arith, less))
            (omega (arith, deep)) (omega (arith, within))
            (rw (shorter, ne_eqb m root at.0) at below) in
            rw (ne_eqb m root at.0) (or_true (m == n)
            ((parents dir m == n) || is_below_within (parents dir) k n (parents dir m)) up)
      ]

  -- and the other way round
  itself : (d l m : ℕ) → IsAtDepth (parents dir) d m → d < suc l → d ≤ max_depth → (m == n) ≡ true
      → is_at_or_below base (rdns_within dir (suc l) m) ≡ true
  unfolding rdns_of rdns_within is_at_or_below
  itself d l m at less within here =
      let alike : rdns_within dir (suc l) m ≡ rdns_within dir (suc max_depth) n =
      levels_alike dir d (suc l) (suc max_depth) m at less (omega (arith, within))
      ∙ ap (rdns_within dir (suc max_depth)) (eqb-true m n here) in
      or_left (same_rdns (rdns_within dir (suc l) m) base)
      (is_at_or_below base (if m == root then dir.meta.suffix else rdns_within dir l (parents dir m)))
      (ap (λ (rdns : List Rdn). same_rdns rdns base) alike ∙ same)

  ends : (d l k m : ℕ) → is_live dir.objects m ≡ true → IsAtDepth (parents dir) d m → d < l → d ≤ max_depth
      → ((m == n) || is_below_within (parents dir) k n m) ≡ true
      → is_at_or_below base (rdns_within dir l m) ≡ true
  unfolding rdns_within is_at_or_below is_below_within
  ends d zero k m other at less within goes = absurd (omega (arith, less))
  ends d (suc l) zero m other at less within goes = elim (cases_Bool (nat_eq m n)) [
    | inl here ↦ itself d l m at less within here
    | inr not_it ↦ absurd (both_ways false refl (rw not_it at goes))
  ]
  ends zero (suc l) (suc k) m other at less within goes = elim (cases_Bool (nat_eq m n)) [
    | inl here ↦ itself zero l m at less within here
    | inr not_it ↦ absurd (both_ways false refl (rw (not_it, eq-eqb m root at) at goes))
  ]
  ends (suc d) (suc l) (suc k) m other at less within goes = elim (cases_Bool (nat_eq m n)) [
    | inl here ↦ itself (suc d) l m at less within here
    | inr not_it ↦
        let up = ends d l k (parents dir m) (parent_live dir m stands other at.0) at.1 (omega (arith, less))
        (omega (arith, within)) (rw (not_it, ne_eqb m root at.0) at goes) in
        rw (ne_eqb m root at.0)
        (or_true (same_rdns (rdn_of dir.schema (object_at dir.objects m) ∷ rdns_within dir l (parents dir m)) base)
        (is_at_or_below base (rdns_within dir l (parents dir m))) up)
  ]

  -- A name ends with the base's exactly where it is that of the base or of an object below it.
  pub at_or_below : (m : ℕ) → is_live dir.objects m ≡ true → is_at_or_below base (rdns_of dir m) ≡ goes_with dir n m
  unfolding rdns_of goes_with is_below
  at_or_below m other =
      let placed : IsPlaced (parents dir) m = stands.placed m other in
      let within : placed.depth ≤ max_depth = placed.within in
      both_true (is_at_or_below base (rdns_within dir (suc max_depth) m))
      ((m == n) || is_below_within (parents dir) max_depth n m)
      (climbs placed.depth (suc max_depth) max_depth m other placed.chain (omega (arith, within)) within within)
      (ends placed.depth (suc max_depth) max_depth m other placed.chain (omega (arith, within)) within)

pub subtree_scope : (dir : Directory) (n m : ℕ) (base : List Rdn) → Stands dir → is_live dir.objects n ≡ true
    → same_rdns (rdns_of dir n) base ≡ true → is_live dir.objects m ≡ true
    → in_scope 2 base (rdns_of dir m) ≡ goes_with dir n m
unfolding in_scope
subtree_scope dir n m base stands live same other = at_or_below dir base n stands live same m other
