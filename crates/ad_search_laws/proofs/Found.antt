-- What is found by a name has it: the other way round than 'whatever has a name is found by it'.
use Rattle.std.proofs.Common.{◌≡◌, ℕ, zero, suc, ◌<◌, ◌≤◌, Bool, true, false, ◌&&◌, List, [], ◌∷◌, ◌++◌, length, take}
use Rattle.std.proofs.Common.{drop, reverse, Option, Some, None, refl, sym, subst, ap, arith, ◌∙◌}
use Rattle.std.specs.Prelude.{nat_eq, find, if◌then◌else◌}
use Rattle.std.specs.Option.{option_and_then}
use Rattle.std.proofs.lemmas.Bool.{eqb-true, eq-eqb, ne_eqb, both_ways, and_parts, and_from}
use Rattle.std.proofs.lemmas.Option.{none-some, same_Some}
use Rattle.std.proofs.lemmas.List.{append-nil, append_assoc, reverse-append, reverse-reverse, take-append-drop}
use Rattle.ad_dn.specs.declared.rdn.Rdn.{Rdn}
use Rattle.ad_dir_model.specs.Limits.{max_depth}
use Rattle.ad_dir_model.specs.Object.{Object}
use Rattle.ad_dir_model.specs.Objects.{object_of, object_at, is_live}
use Rattle.ad_dir_model.specs.Tree.{root, IsAtDepth, IsPlaced}
use Rattle.ad_dir_model.specs.Directory.{Directory, parents}
use Rattle.ad_dir_model.specs.Names.{rdn_of, rdns_within, rdns_of, same_folded, same_rdn, begins_with, is_child_named}
use Rattle.ad_dir_model.specs.Names.{child_named, number_if_typed, child_of_rdn, found_below, found}
use Rattle.ad_dir_model.specs.Soundness.{IsSound}
use Rattle.ad_dir_model.proofs.Finding.{at-of, live-of, live_above, found_first}
use Rattle.ad_dir_model.proofs.ScratchLaws.{root_at}
use Rattle.ad_dir.specs.Standing.{AreStanding}
use Rattle.ad_dir.proofs.StandingLaws.{sound_stand}
use Rattle.ad_search.specs.Scope.{same_rdns}
use Rattle.ad_search.proofs.FoundLaws.{turned, same_snoc, same_reverse}

-- ---- one part down

record IsChild (dir : Directory) (parent : ℕ) (rdn : Rdn) (child : ℕ) : Type 0 where
  live : is_live dir.objects child ≡ true
  below : parents dir child ≡ parent
  named : same_rdn (rdn_of dir.schema (object_at dir.objects child)) rdn ≡ true

child_is : (dir : Directory) (parent child : ℕ) (rdn : Rdn) → IsSound dir → child_of_rdn dir parent rdn ≡ Some child
    → IsChild dir parent rdn child
unfolding child_of_rdn child_named
child_is dir parent child rdn sound is = by_found (find test dir.objects) refl is
  where
    test : Object → Bool
    test x = is_child_named parent rdn.value x

    by_found : (result : Option Object) → find test dir.objects ≡ result
        → option_and_then (number_if_typed dir.schema rdn) result ≡ Some child → IsChild dir parent rdn child
    by_found None none is' = absurd (none-some child is')
    by_found (Some x) found' is' = by_typed (same_rdn (rdn_of dir.schema x) rdn) refl is'
      where
        by_typed : (b : Bool) → same_rdn (rdn_of dir.schema x) rdn ≡ b → (if b then Some x.number else None)
            ≡ Some child → IsChild dir parent rdn child
        by_typed false untyped is'' = absurd (none-some child is'')
        by_typed true typed is'' =
            let first = found_first test 0 dir.objects x sound.rise found' in
            let number : x.number ≡ child = same_Some x.number child is'' in
            let there : object_of dir.objects child ≡ Some x = ap (object_of dir.objects) (sym number) ∙ first.live in
            let at : object_at dir.objects child ≡ x = at-of dir.objects child x there in
            record {
              live = live-of dir.objects child x there;
              below = ap (λ (o : Object). o.parent) at ∙ eqb-true x.parent parent
                  (and_parts (nat_eq x.parent parent) (same_folded x.name rdn.value) first.passes).0;
              named = ap (λ (o : Object). same_rdn (rdn_of dir.schema o) rdn) at ∙ typed;
            }

-- ---- names of objects

same_levels : (dir : Directory) (depth l k n : ℕ) → IsAtDepth (parents dir) depth n → depth < l → depth < k
    → rdns_within dir l n ≡ rdns_within dir k n
unfolding rdns_within
same_levels dir zero zero k n at less more = absurd (omega (arith, less))
same_levels dir zero (suc l) zero n at less more = absurd (omega (arith, more))
same_levels dir zero (suc l) (suc k) n at less more = rw (eq-eqb n root at) refl
same_levels dir (suc d) zero k n at less more = absurd (omega (arith, less))
same_levels dir (suc d) (suc l) zero n at less more = absurd (omega (arith, more))
same_levels dir (suc d) (suc l) (suc k) n at less more =
    rw (ne_eqb n root at.0) (ap (λ (rdns : List Rdn). rdn_of dir.schema (object_at dir.objects n) ∷ rdns)
    (same_levels dir d l k (parents dir n) at.1 (omega (arith, less)) (omega (arith, more))))

-- the name of an object below the root has that of its parent after its own part
name_more : (dir : Directory) (n : ℕ) → AreStanding dir.schema dir.objects → is_live dir.objects n ≡ true
    → (n ≡ root → ⊥)
    → rdns_of dir n ≡ rdn_of dir.schema (object_at dir.objects n) ∷ rdns_of dir (parents dir n)
unfolding rdns_of rdns_within
name_more dir n stands live below =
    rw (ne_eqb n root below) (ap (λ (rdns : List Rdn). rdn_of dir.schema (object_at dir.objects n) ∷ rdns)
    (by_depth placed.depth placed.within placed.chain))
  where
    placed : IsPlaced (parents dir) n
    placed = stands.placed n live

    by_depth : (depth : ℕ) → depth ≤ max_depth → IsAtDepth (parents dir) depth n → rdns_within dir max_depth
        (parents dir n) ≡ rdns_within dir (suc max_depth) (parents dir n)
    by_depth zero within at = absurd (below at)
    by_depth (suc d) within at = same_levels dir d max_depth (suc max_depth) (parents dir n) at.1
        (omega (arith, within)) (omega (arith, within))

-- ---- the way down

record IsCalled (dir : Directory) (n : ℕ) (parts : List Rdn) : Type 0 where
  live : is_live dir.objects n ≡ true
  named : same_rdns (reverse (rdns_of dir n)) parts ≡ true

not_root : (dir : Directory) (m c : ℕ) → IsSound dir → is_live dir.objects m ≡ true → is_live dir.objects c ≡ true
    → parents dir c ≡ m → c ≡ root → ⊥
not_root dir m c sound live_m live_c below is_root =
    let none : parents dir root ≡ 0 = (root_at dir sound).no_parent in
    let is_zero : m ≡ 0 = sym below ∙ ap (parents dir) is_root ∙ none in
    let above : 0 < m = live_above 0 dir.objects m sound.rise live_m in
    absurd (omega (arith, is_zero, above))

below_called : (dir : Directory) (m n : ℕ) (parts above : List Rdn) → IsSound dir → IsCalled dir m above
    → found_below dir m parts ≡ Some n → IsCalled dir n (above ++ parts)
unfolding found_below
below_called dir m n [] above sound called is =
    subst (λ (rdns : List Rdn). IsCalled dir n rdns) (sym (append-nil above))
    (subst (λ (k : ℕ). IsCalled dir k above) (same_Some m n is) called)
below_called dir m n (rdn ∷ rdns) above sound called is =
    by_child (λ c next is'. below_called dir c n rdns (above ++ rdn ∷ []) sound next is') (child_of_rdn dir m rdn)
    refl is
  where
    by_child : ((c : ℕ) → IsCalled dir c (above ++ rdn ∷ []) → found_below dir c rdns ≡ Some n
        → IsCalled dir n ((above ++ rdn ∷ []) ++ rdns)) → (found' : Option ℕ) → child_of_rdn dir m rdn ≡ found'
        → option_and_then (λ (k : ℕ). found_below dir k rdns) found' ≡ Some n → IsCalled dir n (above ++ (rdn ∷ rdns))
    by_child again None none is' = absurd (none-some n is')
    by_child again (Some c) child is' =
        let it = child_is dir m c rdn sound child in
        let stands = sound_stand dir sound in
        let below = not_root dir m c sound called.live it.live it.below in
        let name : reverse (rdns_of dir c) ≡ reverse (rdns_of dir m) ++ rdn_of dir.schema (object_at dir.objects c) ∷ []
        = ap reverse (name_more dir c stands it.live below
        ∙ ap (λ (k : ℕ). rdn_of dir.schema (object_at dir.objects c) ∷ rdns_of dir k) it.below)
        ∙ reverse-append (rdn_of dir.schema (object_at dir.objects c) ∷ []) (rdns_of dir m) in
        let next : IsCalled dir c (above ++ rdn ∷ []) = record {
          live = it.live;
          named = ap (λ (rs : List Rdn). same_rdns rs (above ++ rdn ∷ [])) name
              ∙ same_snoc (reverse (rdns_of dir m)) above (rdn_of dir.schema (object_at dir.objects c)) rdn
              called.named it.named;
        } in
        subst (λ (rs : List Rdn). IsCalled dir n rs) (append_assoc above (rdn ∷ []) rdns) (again c next is')

-- ---- the whole name

begun : (a c : List Rdn) → begins_with c a ≡ true → same_rdns a (take (length a) c) ≡ true
unfolding begins_with same_rdns
begun [] c is = refl
begun (a ∷ as') [] is = absurd (both_ways false refl is)
begun (a ∷ as') (c ∷ cs) is =
    let parts = and_parts (same_rdn c a) (begins_with cs as') is in
    and_from (same_rdn a c) (same_rdns as' (take (length as') cs)) (turned c a parts.0) (begun as' cs parts.1)

pub record IsFoundAs (dir : Directory) (n : ℕ) (rdns : List Rdn) : Type 0 where
  pub live : is_live dir.objects n ≡ true
  pub named : same_rdns (rdns_of dir n) rdns ≡ true

pub found_named : (dir : Directory) (n : ℕ) (rdns : List Rdn) → IsSound dir → found dir rdns ≡ Some n
    → IsFoundAs dir n rdns
unfolding found
found_named dir n rdns sound is = by_test (is_live dir.objects root && begins_with (reverse rdns) top) refl is
  where
    top : List Rdn
    top = reverse (rdns_of dir root)

    by_test : (b : Bool) → (is_live dir.objects root && begins_with (reverse rdns) top) ≡ b
        → (if b then found_below dir root (drop (length top) (reverse rdns)) else None) ≡ Some n → IsFoundAs dir n rdns
    by_test false differs is' = absurd (none-some n is')
    by_test true begins is' =
        let parts = and_parts (is_live dir.objects root) (begins_with (reverse rdns) top) begins in
        let at_top : IsCalled dir root (take (length top) (reverse rdns))
        = record { live = parts.0; named = begun top (reverse rdns) parts.1 } in
        let called = below_called dir root n (drop (length top) (reverse rdns)) (take (length top) (reverse rdns))
        sound at_top is' in
        let whole : same_rdns (reverse (rdns_of dir n)) (reverse rdns) ≡ true
        = ap (same_rdns (reverse (rdns_of dir n))) (sym (take-append-drop (length top) (reverse rdns))) ∙ called.named
        in
        record {
          live = called.live;
          named = ap (λ (rs : List Rdn). same_rdns rs rdns) (sym (reverse-reverse (rdns_of dir n)))
              ∙ ap (same_rdns (reverse (reverse (rdns_of dir n)))) (sym (reverse-reverse rdns))
              ∙ same_reverse (reverse (rdns_of dir n)) (reverse rdns) whole;
        }
