-- Where objects differ in their descriptors alone, names lead to the same objects.
use Rattle.std.proofs.Common.{◌≡◌, ℕ, ◌<◌, Bool, List, [], ◌∷◌, map, Option, Some, None, refl, sym, ap, ◌∙◌, arith}
use Rattle.std.proofs.Common.{inl, inr}
use Rattle.std.specs.Prelude.{find, reverse, is_some, unwrap_or, nat_eq, nat_lt}
use Rattle.std.specs.Option.{option_map, option_and_then}
use Rattle.std.proofs.lemmas.Bool.{cases_Bool, ltb-true}
use Rattle.std.proofs.lemmas.Option.{same_Some, none-some}
use Rattle.ad_dn.specs.declared.rdn.Rdn.{Rdn}
use Rattle.ad_schema.specs.declared.line.SchemaRecord.{SchemaRecord}
use Rattle.ad_dir_model.specs.Object.{Object, no_object}
use Rattle.ad_dir_model.specs.Objects.{RiseAbove, has_number, object_of, object_at, is_live, put}
use Rattle.ad_dir_model.specs.Tree.{root}
use Rattle.ad_dir_model.specs.Directory.{Directory}
use Rattle.ad_dir_model.specs.Names.{rdn_of, rdns_within, rdns_of, is_child_named, child_named, number_if_typed}
use Rattle.ad_dir_model.specs.Names.{child_of_rdn, found_below, found_from_end, found}
use Rattle.ad_dir_model.proofs.Finding.{of_above}
use Rattle.ad_ldifmod_laws.specs.Keeping.{without_sd}

-- ---- objects

abbrev bare : List Object → List Object
bare os = map without_sd os

found_bare : (test : Object → Bool) → ((o : Object) → test (without_sd o) ≡ test o) → (os : List Object)
    → find test (bare os) ≡ option_map without_sd (find test os)
found_bare test same [] = refl
found_bare test same (o ∷ os) = elim (cases_Bool (test o)) [
  | inl is ↦ rw (same o, is) refl
  | inr other ↦ rw (same o, other) (found_bare test same os)
]

object_bare : (os : List Object) (n : ℕ) → object_of (bare os) n ≡ option_map without_sd (object_of os n)
unfolding object_of
object_bare os n = found_bare (has_number n) (λ o. refl) os

live_bare : (os : List Object) (n : ℕ) → is_live (bare os) n ≡ is_live os n
live_bare os n = ap (λ (o : Option Object). is_some o) (object_bare os n) ∙ by (object_of os n)
  where
    by : (o : Option Object) → is_some (option_map without_sd o) ≡ is_some o
    by None = refl
    by (Some o) = refl

-- ---- names

rdn_bare : (schema : List SchemaRecord) (os : List Object) (n : ℕ) → rdn_of schema (object_at (bare os) n)
    ≡ rdn_of schema (object_at os n)
unfolding rdn_of object_at
rdn_bare schema os n = ap (λ (o : Option Object). rdn_of schema (unwrap_or o no_object)) (object_bare os n) ∙
    by (object_of os n)
  where
    by : (o : Option Object) → rdn_of schema (unwrap_or (option_map without_sd o) no_object)
        ≡ rdn_of schema (unwrap_or o no_object)
    by None = refl
    by (Some o) = refl

-- the directory with bare objects, and nothing pending
abbrev bared : Directory → Directory
bared dir = record { schema = dir.schema; objects = bare dir.objects; pending = []; meta = dir.meta }

child_bare : (dir : Directory) (parent : ℕ) (rdn : Rdn) → child_of_rdn (bared dir) parent rdn
    ≡ child_of_rdn dir parent rdn
unfolding child_of_rdn child_named rdn_of
child_bare dir parent rdn =
    ap (λ (o : Option Object). option_and_then (number_if_typed dir.schema rdn) o)
    (found_bare (is_child_named parent rdn.value) (λ o. refl) dir.objects)
    ∙ by (find (is_child_named parent rdn.value) dir.objects)
  where
    by : (o : Option Object) → option_and_then (number_if_typed dir.schema rdn) (option_map without_sd o)
        ≡ option_and_then (number_if_typed dir.schema rdn) o
    by None = refl
    by (Some o) = refl

below_bare : (dir : Directory) (rdns : List Rdn) (number : ℕ) → found_below (bared dir) number rdns
    ≡ found_below dir number rdns
unfolding found_below
below_bare dir [] number = refl
below_bare dir (rdn ∷ rdns) number =
    ap (λ (child : Option ℕ). option_and_then (λ (n : ℕ). found_below (bared dir) n rdns) child)
    (child_bare dir number rdn)
    ∙ behind (child_of_rdn dir number rdn) (below_bare dir rdns)
  where
    behind : (child : Option ℕ) → ((n : ℕ) → found_below (bared dir) n rdns ≡ found_below dir n rdns)
        → option_and_then (λ (n : ℕ). found_below (bared dir) n rdns) child
        ≡ option_and_then (λ (n : ℕ). found_below dir n rdns) child
    behind None same = refl
    behind (Some n) same = same n

end_bare : (dir : Directory) (top parts : List Rdn) → found_from_end (bared dir) top parts
    ≡ found_from_end dir top parts
end_bare dir top parts = rw (live_bare dir.objects root, below_bare dir) refl

names_bare : (dir : Directory) → rdns_of (bared dir) root ≡ rdns_of dir root
unfolding rdns_of rdns_within
names_bare dir = ap (λ (r : Rdn). r ∷ dir.meta.suffix) (rdn_bare dir.schema dir.objects root)

bare_found : (dir : Directory) (rdns : List Rdn) → found (bared dir) rdns ≡ found dir rdns
unfolding found
bare_found dir rdns = ap (λ (top : List Rdn). found_from_end (bared dir) (reverse top) (reverse rdns))
    (names_bare dir) ∙ end_bare dir (reverse (rdns_of dir root)) (reverse rdns)

-- the two differ in descriptors and in the pending list alone
pub record IsLike (dir now : Directory) : Type 0 where
  pub schema : now.schema ≡ dir.schema
  pub meta : now.meta ≡ dir.meta
  pub rest : map without_sd now.objects ≡ map without_sd dir.objects

pub like_then : (dir now next : Directory) → IsLike dir now → IsLike now next → IsLike dir next
like_then dir now next first second = record {
  schema = second.schema ∙ first.schema;
  meta = second.meta
      ∙ first.meta;
  rest = second.rest ∙ first.rest;
}

pub same_found : (dir now : Directory) (rdns : List Rdn) → IsLike dir now → found now rdns ≡ found dir rdns
same_found dir now rdns like =
    sym (bare_found now rdns)
    ∙ rw (like.schema, like.meta, like.rest) (bare_found dir rdns)

-- ---- one object put in the place of one that differs in its descriptor alone

pub rest_put : (m : ℕ) (p y : Object) (os : List Object) → RiseAbove m os → object_of os p.number ≡ Some y
    → without_sd p ≡ without_sd y → map without_sd (put p os) ≡ map without_sd os
unfolding put object_of
rest_put m p y [] rise is same = absurd (none-some y is)
rest_put m p y (b ∷ bs) rise is same =
    elim (cases_Bool (nat_eq b.number p.number)) [
      | inl here ↦
          (let itself : b ≡ y = same_Some b y (rw here at is) in
          rw here (ap (λ (o : Object). o ∷ map without_sd bs) (same ∙ ap without_sd (sym itself))))
      | inr differ ↦ elim (cases_Bool (nat_lt p.number b.number)) [
        | inl less ↦
            (let below : p.number < b.number = ltb-true p.number b.number less in
            let above : b.number < p.number = of_above b.number bs p.number y rise.1 (rw differ at is) in
            absurd (omega (arith, below, above)))
        | inr more ↦ rw (differ, more) (ap (λ (os : List Object). without_sd b ∷ os)
            (rest_put b.number p y bs rise.1 (rw differ at is) same))
      ]
    ]
