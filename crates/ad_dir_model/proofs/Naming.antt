-- An object is found by its name.
use Rattle.std.proofs.Common.{◌≡◌, ℕ, zero, suc, ◌+◌, ◌<◌, ◌≤◌, Bool, true, false, List, [], ◌∷◌, ◌++◌, length, drop}
use Rattle.std.proofs.Common.{reverse, Option, Some, None, ◌⊎◌, inl, inr, refl, sym, subst, ap, arith, ◌∙◌}
use Rattle.std.specs.Prelude.{nat_eq, if◌then◌else◌, find, ◌&&◌}
use Rattle.std.specs.Option.{option_and_then}
use Rattle.std.specs.Str.{bytes_eq, str_to_ascii_uppercase}
use Rattle.std.proofs.lemmas.Bool.{eqb-true, eqb-false, ne_eqb, eq-eqb, cases_Bool, both_ways, and_parts, and_from}
use Rattle.std.proofs.lemmas.Option.{none-some, same_Some}
use Rattle.std.proofs.lemmas.List.{append-nil, append_assoc, drop_at, reverse-append}
use Rattle.std.proofs.lemmas.Slice.Eq.{bytes_eq-Decides}
use Rattle.ad_dn.specs.declared.rdn.Rdn.{Rdn}
use Rattle.ad_dn.specs.Fold.{folded}
use Rattle.ad_dir_model.specs.Limits.{max_depth}
use Rattle.ad_dir_model.specs.Object.{Object}
use Rattle.ad_dir_model.specs.Objects.{object_of, is_live, object_at}
use Rattle.ad_dir_model.specs.Tree.{root, IsAtDepth, IsPlaced}
use Rattle.ad_dir_model.specs.Directory.{Directory, parents}
use Rattle.ad_dir_model.specs.Names.{rdn_of, rdns_within, rdns_of, same_folded, same_rdn, begins_with, is_child_named}
use Rattle.ad_dir_model.specs.Names.{child_named, number_if_typed, child_of_rdn, found_below, found_from_end, found}
use Rattle.ad_dir_model.specs.Soundness.{IsSound}
use Rattle.ad_dir_model.proofs.Finding.{of_number, of-live, at_number, found_first, none_found}
use Rattle.ad_dir_model.proofs.ScratchLaws.{below_at, sound_at}
use Rattle.ad_dir_model.proofs.WorkLaws.{placed_at}

-- ---- parts and their sameness

rdn_same : (a : Rdn) → same_rdn a a ≡ true
rdn_same a = and_from (bytes_eq (str_to_ascii_uppercase a.kind) (str_to_ascii_uppercase a.kind))
    (same_folded a.value a.value)
    ((bytes_eq-Decides (str_to_ascii_uppercase a.kind) (str_to_ascii_uppercase a.kind)).1 refl)
    ((bytes_eq-Decides (folded a.value) (folded a.value)).1 refl)

begins_same : (top rest : List Rdn) → begins_with (top ++ rest) top ≡ true
unfolding begins_with
begins_same [] rest = refl
begins_same (a ∷ as') rest = and_from (same_rdn a a) (begins_with (as' ++ rest) as') (rdn_same a) (begins_same as' rest)

-- ---- the way down

-- the parts from below the root down to an object so deep
pub path : Directory → ℕ → ℕ → List Rdn
path dir zero n = []
path dir (suc d) n = path dir d (parents dir n) ++ rdn_of dir.schema (object_at dir.objects n) ∷ []

pub below_more : (dir : Directory) (n m : ℕ) (rdns : List Rdn) (rdn : Rdn) → found_below dir n rdns ≡ Some m
    → found_below dir n (rdns ++ rdn ∷ []) ≡ child_of_rdn dir m rdn
unfolding found_below
below_more dir n m [] rdn is = by_child (child_of_rdn dir n rdn) ∙ ap (λ (k : ℕ). child_of_rdn dir k rdn)
    (same_Some n m is)
  where
    by_child : (child : Option ℕ) → option_and_then (λ (k : ℕ). Some k) child ≡ child
    by_child None = refl
    by_child (Some k) = refl
below_more dir n m (first ∷ rest) rdn is = by_child (child_of_rdn dir n first) (λ k. below_more dir k m rest rdn) is
  where
    by_child : (child : Option ℕ) → ((k : ℕ) → found_below dir k rest ≡ Some m → found_below dir k (rest ++ rdn ∷ [])
        ≡ child_of_rdn dir m rdn)
        → option_and_then (λ (k : ℕ). found_below dir k rest) child ≡ Some m
        → option_and_then (λ (k : ℕ). found_below dir k (rest ++ rdn ∷ [])) child ≡ child_of_rdn dir m rdn
    by_child None again found = absurd (none-some m found)
    by_child (Some k) again found = again k found

-- a child is found below its parent by its part of the name
child_found : (dir : Directory) (n : ℕ) → IsSound dir → is_live dir.objects n ≡ true
    → child_of_rdn dir (parents dir n) (rdn_of dir.schema (object_at dir.objects n)) ≡ Some n
unfolding child_of_rdn child_named rdn_of
child_found dir n sound live = by_found (find test dir.objects) refl
  where
    o : Object
    o = object_at dir.objects n

    test : Object → Bool
    test x = is_child_named o.parent o.name x

    own : test o ≡ true
    own = and_from (nat_eq o.parent o.parent) (same_folded o.name o.name) (eq-eqb o.parent o.parent refl)
        ((bytes_eq-Decides (folded o.name) (folded o.name)).1 refl)

    number : o.number ≡ n
    number = at_number dir.objects n live

    by_found : (result : Option Object) → find test dir.objects ≡ result
        → option_and_then (number_if_typed dir.schema (rdn_of dir.schema o)) result ≡ Some n
    by_found None none = absurd (both_ways (test o)
        (none_found test dir.objects n o none (of-live dir.objects n live)) own)
    by_found (Some x) is =
        let first = found_first test 0 dir.objects x sound.rise is in
        let parts = and_parts (nat_eq x.parent o.parent) (same_folded x.name o.name) first.passes in
        let same_number : x.number ≡ o.number = (sound_at dir sound.each n live).own_name x.number x first.live
        (eqb-true x.parent o.parent parts.0) ((bytes_eq-Decides (folded x.name) (folded o.name)).0 parts.1) in
        let itself : x ≡ o = same_Some x o (sym first.live ∙ ap (object_of dir.objects) (same_number ∙ number)
        ∙ of-live dir.objects n live) in
        ap (λ (y : Object). number_if_typed dir.schema (rdn_of dir.schema o) y) itself
        ∙ ap (λ (b : Bool). if b then Some o.number else None) (rdn_same (rdn_of dir.schema o))
        ∙ ap (λ (k : ℕ). Some k) number

path_found : (dir : Directory) → IsSound dir → (d n : ℕ) → is_live dir.objects n ≡ true → IsAtDepth (parents dir) d n
    → found_below dir root (path dir d n) ≡ Some n
unfolding path found_below
path_found dir sound zero n live at = ap (λ (k : ℕ). Some k) (sym at)
path_found dir sound (suc d) n live at =
    let parent_live : is_live dir.objects (parents dir n) ≡ true = (below_at dir sound.each n live at.0).parent_live in
    below_more dir root (parents dir n) (path dir d (parents dir n)) (rdn_of dir.schema (object_at dir.objects n))
    (path_found dir sound d (parents dir n) parent_live at.1)
    ∙ child_found dir n sound live

-- ---- the name from its end

top_of : Directory → List Rdn
top_of dir = rdn_of dir.schema (object_at dir.objects root) ∷ dir.meta.suffix

within_is : (dir : Directory) (d levels n : ℕ) → IsAtDepth (parents dir) d n → d < levels
    → reverse (rdns_within dir levels n) ≡ reverse (top_of dir) ++ path dir d n
unfolding rdns_within path top_of
within_is dir zero zero n at less = absurd (omega arith)
within_is dir zero (suc levels) n at less =
    rw (eq-eqb n root at) (ap (λ (k : ℕ). reverse (rdn_of dir.schema (object_at dir.objects k) ∷ dir.meta.suffix)) at
    ∙ sym (append-nil (reverse (top_of dir))))
within_is dir (suc d) zero n at less = absurd (omega arith)
within_is dir (suc d) (suc levels) n at less =
    let below : d < levels = omega arith in
    let rdn : Rdn = rdn_of dir.schema (object_at dir.objects n) in
    rw (ne_eqb n root at.0)
    (reverse-append (rdn_of dir.schema (object_at dir.objects n) ∷ []) (rdns_within dir levels (parents dir n))
    ∙ ap (λ (rdns : List Rdn). rdns ++ rdn_of dir.schema (object_at dir.objects n) ∷ [])
    (within_is dir d levels (parents dir n) at.1 below)
    ∙ append_assoc (reverse (top_of dir)) (path dir d (parents dir n))
    (rdn_of dir.schema (object_at dir.objects n) ∷ []))

pub named_found : (dir : Directory) (n : ℕ) → IsSound dir → is_live dir.objects n ≡ true → found dir (rdns_of dir n)
    ≡ Some n
unfolding found rdns_of top_of path
named_found dir n sound live =
    ap (λ (parts : List Rdn). found_from_end dir (reverse (rdns_within dir (suc max_depth) root)) parts) whole
    ∙ ap (λ (top : List Rdn). found_from_end dir top (reverse (top_of dir) ++ path dir placed.depth n)) root_whole
    ∙ ap (λ (b : Bool). if b then found_below dir root
    (drop (length (reverse (top_of dir))) (reverse (top_of dir) ++ path dir placed.depth n)) else None)
    (and_from (is_live dir.objects root) (begins_with (reverse (top_of dir) ++ path dir placed.depth n)
    (reverse (top_of dir))) sound.frame.root_live (begins_same (reverse (top_of dir)) (path dir placed.depth n)))
    ∙ ap (found_below dir root) (drop_at (reverse (top_of dir)) (path dir placed.depth n)
    (length (reverse (top_of dir))) refl)
    ∙ path_found dir sound placed.depth n live placed.chain
  where
    placed : IsPlaced (parents dir) n
    placed = placed_at dir sound.each n live

    less : placed.depth < suc max_depth
    less = let within : placed.depth ≤ max_depth = placed.within in omega arith

    whole : reverse (rdns_within dir (suc max_depth) n) ≡ reverse (top_of dir) ++ path dir placed.depth n
    whole = within_is dir placed.depth (suc max_depth) n placed.chain less

    root_whole : reverse (rdns_within dir (suc max_depth) root) ≡ reverse (top_of dir)
    root_whole = within_is dir 0 (suc max_depth) root refl (omega arith) ∙ append-nil (reverse (top_of dir))
