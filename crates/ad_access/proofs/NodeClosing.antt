-- How the rights at the leaves of a tree give those of the nodes above.
use Rattle.std.proofs.Common.{◌≡◌, ◌≢◌, ℕ, ◌+◌, ◌<◌, ◌≤◌, ◌⊎◌, inl, inr, Bool, true, false, ◌&&◌, Option, None, Some}
use Rattle.std.proofs.Common.{List, [], ◌∷◌, length, get_or, set, drop, refl, sym, ap, ◌∙◌, arith, eq-eqb}
use Rattle.std.specs.Prelude.{bit_and, if◌then◌else◌, ◌==◌}
use Rattle.std.specs.List.{list_all}
use Rattle.std.proofs.Math.Bool.{and-true}
use Rattle.std.proofs.lemmas.Bool.{cases_eq, ne_eqb}
use Rattle.std.proofs.lemmas.List.{get_or-set_same, get_or-set_other, length-set, drop_more, drop_all}
use Rattle.ad_acl.specs.Mask.{has_bit}
use Rattle.ad_acl.proofs.MaskLaws.{has_bit-and}
use Rattle.ad_types.specs.declared.type_tree.Node.{Node}
use Rattle.ad_types.specs.Tree.{is_tree, names, children_from, is_leaf}
use Rattle.ad_types.proofs.TreeLaws.{above_earlier}
use Rattle.ad_access.specs.Rights.{right_at}

-- Tests that agree from a place on agree on all children from there.
pub all_from : (f g : ℕ → Bool) (at : ℕ) (nodes : List Node) (place : ℕ)
    → ((c : ℕ) → at ≤ c → c < at + length nodes → f c ≡ g c) → list_all f (children_from at nodes place)
    ≡ list_all g (children_from at nodes place)
unfolding children_from
all_from f g at [] place same = refl
all_from f g at (node ∷ others) place same =
    let rest : list_all f (children_from (at + 1) others place) ≡ list_all g (children_from (at + 1) others place)
    = all_from f g (at + 1) others place (λ c le lt. same c (omega (arith, le)) (omega (arith, lt))) in
    one (names node.above place) (same at (omega arith) (omega arith)) rest
  where
    one : (named : Bool) → f at ≡ g at → list_all f (children_from (at + 1) others place)
        ≡ list_all g (children_from (at + 1) others place)
        → list_all f (if named then at ∷ children_from (at + 1) others place else children_from (at + 1) others place)
        ≡ list_all g (if named then at ∷ children_from (at + 1) others place else children_from (at + 1) others place)
    one true here rest = ap (λ (b : Bool). b && list_all f (children_from (at + 1) others place)) here
        ∙ ap (λ (b : Bool). g at && b) rest
    one false here rest = rest

-- So many nodes are closed, from the last up: each has the rights that those of its children have.
pub record Closed (nodes : List Node) (before after : List ℕ) (count : ℕ) : Type 0 where
  pub inside : count ≤ length nodes
  pub len : length after ≡ length nodes
  pub closed : (place bit : ℕ) → place < length nodes → right_at after bit place ≡ right_at before bit place
      && list_all (right_at after bit) (children_from count (drop count nodes) place)

pub closed_none : (nodes : List Node) (before : List ℕ) → length before ≡ length nodes → Closed nodes before before
    (length nodes)
unfolding children_from
closed_none nodes before len = record {
  inside = omega arith;
  len = len;
  closed = λ place bit lt. rw (drop_all (length nodes) nodes (omega arith))
      (sym (and-true (right_at before bit place)));
}

children_step : (nodes : List Node) (i : ℕ) (d : Node) (place : ℕ) → i < length nodes → children_from i (drop i nodes)
    place ≡ (if names (get_or nodes i d).above place then i ∷ children_from (i + 1) (drop (i + 1) nodes) place
    else children_from (i + 1) (drop (i + 1) nodes) place)
unfolding children_from
children_step nodes i d place lt = ap (λ (rest : List Node). children_from i rest place) (drop_more nodes i d lt)

-- a root takes nothing from another node
pub closed_root : (nodes : List Node) (before after : List ℕ) (i : ℕ) (d : Node) → i < length nodes
    → (get_or nodes i d).above ≡ None → Closed nodes before after (i + 1) → Closed nodes before after i
closed_root nodes before after i d lt root closed = record {
  inside = omega (arith, lt);
  len = closed.len;
  closed = λ place bit less.
      let rest : List ℕ = children_from (i + 1) (drop (i + 1) nodes) place in
      let same : children_from i (drop i nodes) place ≡ rest = children_step nodes i d place lt
      ∙ ap (λ (above : Option ℕ). if names above place then i ∷ rest else rest) root in
      closed.closed place bit less ∙ ap (λ (cs : List ℕ). right_at before bit place && list_all (right_at after bit)
      cs) (sym same);
}

regroup : (a b c : Bool) → (a && b) && c ≡ a && (c && b)
regroup false b c = refl
regroup true false false = refl
regroup true false true = refl
regroup true true c = sym (and-true c)

-- a node takes from the one above it what it doesn't have itself
pub closed_more : (nodes : List Node) (before after : List ℕ) (i above : ℕ) (d : Node) → is_tree nodes ≡ true → i
    < length nodes → (get_or nodes i d).above ≡ Some above → Closed nodes before after (i + 1)
    → Closed nodes before (set after above (bit_and (get_or after above 0) (get_or after i 0))) i
closed_more nodes before after i above d tree lt is closed = record {
  inside = omega (arith, lt);
  len = length-set after above value ∙ closed.len;
  closed = λ place bit less.
      let rest : List ℕ = children_from (i + 1) (drop (i + 1) nodes) place in
      let children_are : children_from i (drop i nodes) place ≡ (if names (Some above) place then i ∷ rest else rest)
      = children_step nodes i d place lt ∙ ap (λ (o : Option ℕ). if names o place then i ∷ rest else rest) is in
      let unchanged : list_all (right_at (set after above value) bit) rest ≡ list_all (right_at after bit) rest
      = all_from (right_at (set after above value) bit) (right_at after bit) (i + 1) (drop (i + 1) nodes) place
      (λ c le small. other bit c (omega (arith, le, early))) in
      one place bit rest (closed.closed place bit less) unchanged (cases_eq place above)
      ∙ ap (λ (cs : List ℕ). right_at before bit place && list_all (right_at (set after above value) bit) cs)
      (sym children_are);
}
  where
    value : ℕ
    value = bit_and (get_or after above 0) (get_or after i 0)

    early : above < i
    early = above_earlier nodes i above d tree lt is

    inside : above < length after
    inside = omega (arith, early, lt, closed.len)

    other : (bit place : ℕ) → place ≢ above → right_at (set after above value) bit place ≡ right_at after bit place
    other bit place apart = ap (λ (n : ℕ). has_bit n bit) (get_or-set_other after above place value 0 apart)

    own : (bit : ℕ) → right_at (set after above value) bit above ≡ right_at after bit above && right_at after bit i
    own bit = ap (λ (n : ℕ). has_bit n bit) (get_or-set_same after above value 0 inside)
        ∙ has_bit-and (get_or after above 0) (get_or after i 0) bit

    one : (place bit : ℕ) (rest : List ℕ) → right_at after bit place ≡ right_at before bit place
        && list_all (right_at after bit) rest → list_all (right_at (set after above value) bit) rest
        ≡ list_all (right_at after bit) rest → (place ≡ above) ⊎ (place ≡ above → ⊥)
        → right_at (set after above value) bit place ≡ right_at before bit place
        && list_all (right_at (set after above value) bit) (if names (Some above) place then i ∷ rest else rest)
    one place bit rest was unchanged (inl same) =
        let all = list_all (right_at after bit) rest in
        let named : names (Some above) place ≡ true = eq-eqb above place (sym same) in
        let lists : list_all (right_at (set after above value) bit)
        (if names (Some above) place then i ∷ rest else rest) ≡ right_at after bit i && all =
        ap (λ (b : Bool). list_all (right_at (set after above value) bit) (if b then i ∷ rest else rest)) named
        ∙ ap (λ (b : Bool). b && list_all (right_at (set after above value) bit) rest)
        (other bit i (omega (arith, early)))
        ∙ ap (λ (b : Bool). right_at after bit i && b) unchanged in
        ap (right_at (set after above value) bit) same
        ∙ own bit
        ∙ ap (λ (b : Bool). b && right_at after bit i) (ap (right_at after bit) (sym same) ∙ was)
        ∙ regroup (right_at before bit place) all (right_at after bit i)
        ∙ ap (λ (b : Bool). right_at before bit place && b) (sym lists)
    one place bit rest was unchanged (inr apart) =
        let named : names (Some above) place ≡ false = ne_eqb above place (λ e. apart (sym e)) in
        let lists : list_all (right_at (set after above value) bit)
        (if names (Some above) place then i ∷ rest else rest) ≡ list_all (right_at after bit) rest =
        ap (λ (b : Bool). list_all (right_at (set after above value) bit) (if b then i ∷ rest else rest)) named
        ∙ unchanged in
        other bit place apart ∙ was ∙ ap (λ (b : Bool). right_at before bit place && b) (sym lists)

-- The nodes from this one on are still to come: what they open, over what is open so far, is what all nodes open.
pub record Opened (nodes : List Node) (want : ℕ) (before after : List ℕ) (count : ℕ) : Type 0 where
  pub len : length after ≡ length nodes
  pub opened : (place : ℕ) → place < length nodes
      → (if length (children_from count (drop count nodes) place) == 0 then get_or after place 0 else want)
      ≡ (if is_leaf nodes place then get_or before place 0 else want)

pub opened_none : (nodes : List Node) (want : ℕ) (before : List ℕ) → length before ≡ length nodes
    → Opened nodes want before before 0
opened_none nodes want before len = record { len = len; opened = λ place lt. refl }

pub opened_all : (nodes : List Node) (want : ℕ) (before after : List ℕ) (count : ℕ) → length nodes ≤ count
    → Opened nodes want before after count → (place : ℕ) → place < length nodes → get_or after place 0
    ≡ (if is_leaf nodes place then get_or before place 0 else want)
unfolding children_from
opened_all nodes want before after count le opened place lt =
    ap (λ (rest : List Node). if length (children_from count rest place) == 0 then get_or after place 0 else want)
    (sym (drop_all count nodes le)) ∙ opened.opened place lt

pub opened_root : (nodes : List Node) (want : ℕ) (before after : List ℕ) (i : ℕ) (d : Node) → i < length nodes
    → (get_or nodes i d).above ≡ None → Opened nodes want before after i → Opened nodes want before after (i + 1)
opened_root nodes want before after i d lt root opened = record {
  len = opened.len;
  opened = λ place less.
      let rest : List ℕ = children_from (i + 1) (drop (i + 1) nodes) place in
      let same : children_from i (drop i nodes) place ≡ rest = children_step nodes i d place lt
      ∙ ap (λ (above : Option ℕ). if names above place then i ∷ rest else rest) root in
      ap (λ (cs : List ℕ). if length cs == 0 then get_or after place 0 else want) (sym same) ∙ opened.opened place less;
}

pub opened_more : (nodes : List Node) (want : ℕ) (before after : List ℕ) (i above : ℕ) (d : Node) → is_tree nodes
    ≡ true → i < length nodes → (get_or nodes i d).above ≡ Some above → Opened nodes want before after i
    → Opened nodes want before (set after above want) (i + 1)
opened_more nodes want before after i above d tree lt is opened = record {
  len = length-set after above want ∙ opened.len;
  opened = λ place less.
      let rest : List ℕ = children_from (i + 1) (drop (i + 1) nodes) place in
      let children_are : children_from i (drop i nodes) place ≡ (if names (Some above) place then i ∷ rest else rest)
      = children_step nodes i d place lt ∙ ap (λ (o : Option ℕ). if names o place then i ∷ rest else rest) is in
      one place rest (cases_eq place above)
      ∙ ap (λ (cs : List ℕ). if length cs == 0 then get_or after place 0 else want) (sym children_are)
      ∙ opened.opened place less;
}
  where
    early : above < i
    early = above_earlier nodes i above d tree lt is

    inside : above < length after
    inside = omega (arith, early, lt, opened.len)

    either : (b : Bool) → (if b then want else want) ≡ want
    either true = refl
    either false = refl

    some : (rest : List ℕ) → (length (i ∷ rest) == 0) ≡ false
    some rest = ne_eqb (length (i ∷ rest)) 0 (λ e. absurd (omega (arith, e)))

    one : (place : ℕ) (rest : List ℕ) → (place ≡ above) ⊎ (place ≡ above → ⊥)
        → (if length rest == 0 then get_or (set after above want) place 0 else want)
        ≡ (if length (if names (Some above) place then i ∷ rest else rest) == 0 then get_or after place 0 else want)
    one place rest (inl same) =
        let named : names (Some above) place ≡ true = eq-eqb above place (sym same) in
        ap (λ (n : ℕ). if length rest == 0 then n else want) (ap (λ (p : ℕ). get_or (set after above want) p 0) same
        ∙ get_or-set_same after above want 0 inside)
        ∙ either (length rest == 0)
        ∙ sym (ap (λ (b : Bool). if b then get_or after place 0 else want) (some rest))
        ∙ ap (λ (b : Bool). if length (if b then i ∷ rest else rest) == 0 then get_or after place 0 else want)
        (sym named)
    one place rest (inr apart) =
        let named : names (Some above) place ≡ false = ne_eqb above place (λ e. apart (sym e)) in
        ap (λ (n : ℕ). if length rest == 0 then n else want) (get_or-set_other after above place want 0 apart)
        ∙ ap (λ (b : Bool). if length (if b then i ∷ rest else rest) == 0 then get_or after place 0 else want)
        (sym named)
