-- An object is found by each spelling of its name, in every directory that stands.
use Rattle.std.proofs.Common.{◌≡◌, ℕ, zero, suc, ◌<◌, ◌≤◌, Bool, true, false, List, [], ◌∷◌, ◌++◌, length, drop}
use Rattle.std.proofs.Common.{reverse, Option, Some, None, refl, sym, subst, ap, ◌∙◌, arith}
use Rattle.std.specs.Prelude.{nat_eq, find, if◌then◌else◌}
use Rattle.std.specs.Option.{option_and_then}
use Rattle.std.proofs.lemmas.Bool.{eqb-true, eq-eqb, ne_eqb, both_ways, and_parts, and_from}
use Rattle.std.proofs.lemmas.Option.{same_Some}
use Rattle.std.proofs.lemmas.List.{append-nil, append_assoc, reverse-append}
use Rattle.std.proofs.lemmas.Slice.Eq.{bytes_eq-Decides}
use Rattle.ad_dn.specs.declared.rdn.Rdn.{Rdn}
use Rattle.ad_dn.specs.Fold.{folded, IsSameRdn}
use Rattle.ad_dir_model.specs.Limits.{max_depth}
use Rattle.ad_dir_model.specs.Object.{Object}
use Rattle.ad_dir_model.specs.Objects.{object_of, is_live, object_at}
use Rattle.ad_dir_model.specs.Tree.{root, IsAtDepth, IsPlaced}
use Rattle.ad_dir_model.specs.Directory.{Directory, parents}
use Rattle.ad_dir_model.specs.Names.{rdn_of, rdns_within, rdns_of, same_folded, same_rdn, begins_with, is_child_named}
use Rattle.ad_dir_model.specs.Names.{child_named, number_if_typed, child_of_rdn, found_below, found_from_end, found}
use Rattle.ad_dir_model.proofs.Naming.{below_more}
use Rattle.ad_dir_model.proofs.Finding.{of-live, at_number, found_first, none_found}
use Rattle.ad_dir.specs.Standing.{AreStanding}
use Rattle.ad_search.specs.Scope.{same_rdns}
use Rattle.ad_search.proofs.NameLaws.{to_part, from_part}

abbrev pub Stands : Directory → Type 0
Stands dir = AreStanding dir.schema dir.objects

-- ---- names from the end

pub turned : (a b : Rdn) → same_rdn a b ≡ true → same_rdn b a ≡ true
turned a b is = let same : IsSameRdn a b = from_part a b is
    in to_part b a (record { kind = sym same.kind; value = sym same.value })

pub same_snoc : (a b : List Rdn) (x y : Rdn) → same_rdns a b ≡ true → same_rdn x y ≡ true → same_rdns (a ++ x ∷ [])
    (b ++ y ∷ []) ≡ true
unfolding same_rdns
same_snoc [] [] x y all one = and_from (same_rdn x y) true one refl
same_snoc [] (b ∷ bs) x y all one = absurd (both_ways false refl all)
same_snoc (a ∷ as') [] x y all one = absurd (both_ways false refl all)
same_snoc (a ∷ as') (b ∷ bs) x y all one =
    let parts = and_parts (same_rdn a b) (same_rdns as' bs) all in
    and_from (same_rdn a b) (same_rdns (as' ++ x ∷ []) (bs ++ y ∷ [])) parts.0 (same_snoc as' bs x y parts.1 one)

last_first : (x : Rdn) (xs : List Rdn) → reverse (x ∷ xs) ≡ reverse xs ++ x ∷ []
last_first x xs = reverse-append (x ∷ []) xs

pub same_reverse : (a b : List Rdn) → same_rdns a b ≡ true → same_rdns (reverse a) (reverse b) ≡ true
unfolding same_rdns
same_reverse [] [] all = refl
same_reverse [] (b ∷ bs) all = absurd (both_ways false refl all)
same_reverse (a ∷ as') [] all = absurd (both_ways false refl all)
same_reverse (a ∷ as') (b ∷ bs) all =
    let parts = and_parts (same_rdn a b) (same_rdns as' bs) all in
    ap (λ (xs : List Rdn). same_rdns xs (reverse (b ∷ bs))) (last_first a as')
    ∙ ap (λ (ys : List Rdn). same_rdns (reverse as' ++ a ∷ []) ys) (last_first b bs)
    ∙ same_snoc (reverse as') (reverse bs) a b (same_reverse as' bs parts.1) parts.0

-- a name that is made of two is begun by the first, and the rest is the second
record Begins (a b c : List Rdn) : Type 0 where
  begins : begins_with c a ≡ true
  rest : same_rdns b (drop (length a) c) ≡ true

front : (a b c : List Rdn) → same_rdns (a ++ b) c ≡ true → Begins a b c
unfolding same_rdns begins_with
front [] b c all = record { begins = refl; rest = all }
front (a ∷ as') b [] all = absurd (both_ways false refl all)
front (a ∷ as') b (c ∷ cs) all =
    let parts = and_parts (same_rdn a c) (same_rdns (as' ++ b) cs) all in
    let others = front as' b cs parts.1 in
    record {
      begins = and_from (same_rdn c a) (begins_with cs as') (turned a c parts.0) others.begins;
      rest = others.rest;
    }

-- a name with one more part at its end
record EndsWith (a : List Rdn) (x : Rdn) (c : List Rdn) : Type 0 where
  before : List Rdn
  last : Rdn
  parts : c ≡ before ++ last ∷ []
  same_before : same_rdns a before ≡ true
  same_last : same_rdn x last ≡ true

at_end : (a : List Rdn) (x : Rdn) (c : List Rdn) → same_rdns (a ++ x ∷ []) c ≡ true → EndsWith a x c
unfolding same_rdns
at_end [] x [] all = absurd (both_ways false refl all)
at_end [] x (c ∷ []) all = record {
  before = [];
  last = c;
  parts = refl;
  same_before = refl;
  same_last
      = (and_parts (same_rdn x c) true all).0;
}
at_end [] x (c ∷ d ∷ cs) all = absurd (both_ways false refl (and_parts (same_rdn x c) false all).1)
at_end (a ∷ as') x [] all = absurd (both_ways false refl all)
at_end (a ∷ as') x (c ∷ cs) all =
    let parts = and_parts (same_rdn a c) (same_rdns (as' ++ x ∷ []) cs) all in
    let others = at_end as' x cs parts.1 in
    record {
      before = c ∷ others.before;
      last = others.last;
      parts = ap (λ (rest : List Rdn). c ∷ rest) others.parts;
      same_before = and_from (same_rdn a c) (same_rdns as' others.before) parts.0 others.same_before;
      same_last = others.same_last;
    }

-- ---- the way down

-- the parts from below the root down to an object so deep
path : Directory → ℕ → ℕ → List Rdn
path dir zero n = []
path dir (suc d) n = path dir d (parents dir n) ++ rdn_of dir.schema (object_at dir.objects n) ∷ []

-- a child is found below its parent by each spelling of its part of the name
child_found : (dir : Directory) (n : ℕ) (rdn : Rdn) → Stands dir → is_live dir.objects n ≡ true
    → same_rdn (rdn_of dir.schema (object_at dir.objects n)) rdn ≡ true
    → child_of_rdn dir (parents dir n) rdn ≡ Some n
unfolding child_of_rdn child_named rdn_of
child_found dir n rdn stands live same = by_found (find test dir.objects) refl
  where
    o : Object
    o = object_at dir.objects n

    test : Object → Bool
    test x = is_child_named o.parent rdn.value x

    own_value : folded o.name ≡ folded rdn.value
    own_value = (from_part (rdn_of dir.schema o) rdn same).value

    own : test o ≡ true
    own = and_from (nat_eq o.parent o.parent) (same_folded o.name rdn.value) (eq-eqb o.parent o.parent refl)
        ((bytes_eq-Decides (folded o.name) (folded rdn.value)).1 own_value)

    number : o.number ≡ n
    number = at_number dir.objects n live

    by_found : (result : Option Object) → find test dir.objects ≡ result
        → option_and_then (number_if_typed dir.schema rdn) result ≡ Some n
    by_found None none = absurd (both_ways (test o)
        (none_found test dir.objects n o none (of-live dir.objects n live)) own)
    by_found (Some x) is =
        let first = found_first test 0 dir.objects x stands.rise is in
        let parts = and_parts (nat_eq x.parent o.parent) (same_folded x.name rdn.value) first.passes in
        let same_name : folded x.name ≡ folded o.name = (bytes_eq-Decides (folded x.name) (folded rdn.value)).0
        parts.1 ∙ sym own_value in
        let same_number : x.number ≡ o.number = stands.own_name n o (of-live dir.objects n live) x.number x first.live
        (eqb-true x.parent o.parent parts.0) same_name in
        let itself : x ≡ o = same_Some x o (sym first.live ∙ ap (object_of dir.objects) (same_number ∙ number)
        ∙ of-live dir.objects n live) in
        ap (λ (y : Object). number_if_typed dir.schema rdn y) itself
        ∙ ap (λ (b : Bool). if b then Some o.number else None) same
        ∙ ap (λ (k : ℕ). Some k) number

pub parent_live : (dir : Directory) (n : ℕ) → Stands dir → is_live dir.objects n ≡ true → (n ≡ root → ⊥)
    → is_live dir.objects (parents dir n) ≡ true
parent_live dir n stands live below = stands.parents n (object_at dir.objects n) (of-live dir.objects n live) below

root_live : (dir : Directory) → Stands dir → (d n : ℕ) → is_live dir.objects n ≡ true → IsAtDepth (parents dir) d n
    → is_live dir.objects root ≡ true
root_live dir stands zero n live at = subst (λ (k : ℕ). is_live dir.objects k ≡ true) at live
root_live dir stands (suc d) n live at = root_live dir stands d (parents dir n) (parent_live dir n stands live at.0)
    at.1

path_found : (dir : Directory) → Stands dir → (d n : ℕ) (rdns : List Rdn) → is_live dir.objects n ≡ true
    → IsAtDepth (parents dir) d n → same_rdns (path dir d n) rdns ≡ true
    → found_below dir root rdns ≡ Some n
unfolding path found_below same_rdns
path_found dir stands zero n [] live at same = ap (λ (k : ℕ). Some k) (sym at)
path_found dir stands zero n (r ∷ rs) live at same = absurd (both_ways false refl same)
path_found dir stands (suc d) n rdns live at same =
    let ends = at_end (path dir d (parents dir n)) (rdn_of dir.schema (object_at dir.objects n)) rdns same in
    ap (found_below dir root) ends.parts
    ∙ below_more dir root (parents dir n) ends.before ends.last
    (path_found dir stands d (parents dir n) ends.before (parent_live dir n stands live at.0) at.1
    ends.same_before)
    ∙ child_found dir n ends.last stands live ends.same_last

-- ---- the name from its end

top_of : Directory → List Rdn
top_of dir = rdn_of dir.schema (object_at dir.objects root) ∷ dir.meta.suffix

within_is : (dir : Directory) (d levels n : ℕ) → IsAtDepth (parents dir) d n → d < levels
    → reverse (rdns_within dir levels n) ≡ reverse (top_of dir) ++ path dir d n
unfolding rdns_within path top_of
within_is dir zero zero n at less = absurd (omega arith)
within_is dir zero (suc levels) n at less =
    rw (eq-eqb n root at) (ap (λ (k : ℕ). reverse (rdn_of dir.schema (object_at dir.objects k) ∷ dir.meta.suffix)) at
    ∙ sym (append-nil (reverse (top_of dir))))
within_is dir (suc d) zero n at less = absurd (omega arith)
within_is dir (suc d) (suc levels) n at less =
    let below : d < levels = omega arith in
    rw (ne_eqb n root at.0)
    (reverse-append (rdn_of dir.schema (object_at dir.objects n) ∷ []) (rdns_within dir levels (parents dir n))
    ∙ ap (λ (rdns : List Rdn). rdns ++ rdn_of dir.schema (object_at dir.objects n) ∷ [])
    (within_is dir d levels (parents dir n) at.1 below)
    ∙ append_assoc (reverse (top_of dir)) (path dir d (parents dir n))
    (rdn_of dir.schema (object_at dir.objects n) ∷ []))

pub named_found : (dir : Directory) (n : ℕ) (rdns : List Rdn) → Stands dir → is_live dir.objects n ≡ true
    → same_rdns (rdns_of dir n) rdns ≡ true → found dir rdns ≡ Some n
unfolding found rdns_of path top_of
named_found dir n rdns stands live same =
    ap (λ (top : List Rdn). found_from_end dir top (reverse rdns)) root_whole
    ∙ ap (λ (b : Bool). if b then found_below dir root (drop (length (reverse (top_of dir))) (reverse rdns)) else None)
    (and_from (is_live dir.objects root) (begins_with (reverse rdns) (reverse (top_of dir)))
    (root_live dir stands placed.depth n live placed.chain) begins.begins)
    ∙ path_found dir stands placed.depth n (drop (length (reverse (top_of dir))) (reverse rdns)) live placed.chain
    begins.rest
  where
    placed : IsPlaced (parents dir) n
    placed = stands.placed n live

    less : placed.depth < suc max_depth
    less = let within : placed.depth ≤ max_depth = placed.within in omega arith

    whole : reverse (rdns_within dir (suc max_depth) n) ≡ reverse (top_of dir) ++ path dir placed.depth n
    whole = within_is dir placed.depth (suc max_depth) n placed.chain less

    root_whole : reverse (rdns_within dir (suc max_depth) root) ≡ reverse (top_of dir)
    root_whole = within_is dir 0 (suc max_depth) root refl (omega arith) ∙ append-nil (reverse (top_of dir))

    begins : Begins (reverse (top_of dir)) (path dir placed.depth n) (reverse rdns)
    begins = front (reverse (top_of dir)) (path dir placed.depth n) (reverse rdns)
        (subst (λ (name : List Rdn). same_rdns name (reverse rdns) ≡ true) whole
        (same_reverse (rdns_within dir (suc max_depth) n) rdns same))
