-- The nodes in their order are all nodes, each once.
use Rattle.std.proofs.Common.{◌≡◌, ◌∙◌, ℕ, zero, suc, ◌+◌, ◌<◌, ◌⊎◌, inl, inr, true, Some, List, [], ◌∷◌, ◌++◌}
use Rattle.std.proofs.Common.{length, map, refl, sym, ap, arith}
use Rattle.std.specs.Prelude.{slice_get, nat_eq}
use Rattle.std.specs.Option.{option_map}
use Rattle.std.proofs.lemmas.Bool.{eq-eqb, eqb-true}
use Rattle.std.proofs.lemmas.Option.{same_Some, none-some, slice_get-map}
use Rattle.ad_ids.specs.SidValue.{SidValue, same_sid, same_sid_laws}
use Rattle.ad_dir_model.specs.Object.{Object as Stored}
use Rattle.ad_dir_model.specs.Objects.{RiseAbove, Rise, numbers}
use Rattle.ad_dir_model.specs.Directory.{Directory}
use Rattle.ad_principals.specs.Tokens.{is_before, SidsRise}
use Rattle.ad_principals.proofs.Identified.{has_numbers}
use Rattle.ad_principals.proofs.Rising.{one_sid, not_both}
use Rattle.ad_control_graph.specs.declared.node.Node.{Node}
use Rattle.ad_control_graph.specs.declared.node.Node.TheVariants.{Object, Identifier}
use Rattle.ad_control.specs.Edges.{is_node}
use Rattle.ad_control_nodes.specs.Ground.{AreNodes, AreInOrder}
use Rattle.ad_control_nodes.proofs.Lists.{front, behind, each_at, any_at, passing}

-- ---- which node stands at a place

record IsFirst (ns : List ℕ) (place : ℕ) (node : Node) : Type 0 where
  number : ℕ
  is_number : slice_get ns place ≡ Some number
  is : node ≡ Object number

record IsOther (sids : List SidValue) (before place : ℕ) (node : Node) : Type 0 where
  at : ℕ
  sid : SidValue
  is_sid : slice_get sids at ≡ Some sid
  is : node ≡ Identifier sid
  stands : place ≡ before + at

abbrev in_order : List ℕ → List SidValue → List Node
in_order ns sids = map (λ number. Object number) ns ++ map (λ sid. Identifier sid) sids

other_at : (sids : List SidValue) (place : ℕ) (node : Node) → slice_get (map (λ sid. Identifier sid) sids) place ≡ Some node
    → IsOther sids 0 place node
other_at [] place node at = absurd (none-some node at)
other_at (s ∷ sids) zero node at = record {
  at = 0;
  sid = s;
  is_sid = refl;
  is = sym (same_Some (Identifier s) node at);
  stands = omega arith;
}
other_at (s ∷ sids) (suc place) node at =
    let o = other_at sids place node at in
    record { at = suc o.at; sid = o.sid; is_sid = o.is_sid; is = o.is; stands = omega (arith, o.stands) }

node_at : (ns : List ℕ) (sids : List SidValue) (place : ℕ) (node : Node) → slice_get (in_order ns sids) place ≡ Some node
    → IsFirst ns place node ⊎ IsOther sids (length ns) place node
node_at [] sids place node at = inr (other_at sids place node at)
node_at (n ∷ ns) sids zero node at =
    inl (record { number = n; is_number = refl; is = sym (same_Some (Object n) node at) })
node_at (n ∷ ns) sids (suc place) node at = elim (node_at ns sids place node at) [
  | inl f ↦ inl (record { number = f.number; is_number = f.is_number; is = f.is })
  | inr o ↦ inr (record {
    at = o.at;
    sid = o.sid;
    is_sid = o.is_sid;
    is = o.is;
    stands = omega (arith, o.stands);
  })
]

-- ---- each once

above : (m : ℕ) (os : List Stored) (place n : ℕ) → RiseAbove m os → slice_get (numbers os) place ≡ Some n → m < n
unfolding numbers
above m [] place n rise at = absurd (none-some n at)
above m (o ∷ os) zero n rise at = let same = same_Some o.number n at in omega (arith, rise.0, same)
above m (o ∷ os) (suc place) n rise at =
    let more = above o.number os place n rise.1 at in omega (arith, rise.0, more)

number_once : (m : ℕ) (os : List Stored) (first second n : ℕ) → RiseAbove m os
    → slice_get (numbers os) first ≡ Some n → slice_get (numbers os) second ≡ Some n → first ≡ second
unfolding numbers
number_once m [] first second n rise one other = absurd (none-some n one)
number_once m (o ∷ os) zero zero n rise one other = refl
number_once m (o ∷ os) zero (suc second) n rise one other =
    let same = same_Some o.number n one in
    let more = above o.number os second n rise.1 other in
    absurd (omega (arith, same, more))
number_once m (o ∷ os) (suc first) zero n rise one other =
    let same = same_Some o.number n other in
    let more = above o.number os first n rise.1 one in
    absurd (omega (arith, same, more))
number_once m (o ∷ os) (suc first) (suc second) n rise one other =
    ap suc (number_once o.number os first second n rise.1 one other)

sid_once : (sids : List SidValue) (first second : ℕ) (sid : SidValue) → SidsRise sids
    → slice_get sids first ≡ Some sid → slice_get sids second ≡ Some sid → first ≡ second
sid_once [] first second sid rise one other = absurd (none-some sid one)
sid_once (s ∷ sids) zero zero sid rise one other = refl
sid_once (s ∷ sids) zero (suc second) sid rise one other =
    let before = each_at (λ o. is_before s o ≡ true) sids second sid rise.0 other in
    let own : is_before sid sid ≡ true = ap (λ x. is_before x sid) (sym (same_Some s sid one)) ∙ before in
    absurd (not_both sid sid own own)
sid_once (s ∷ sids) (suc first) zero sid rise one other =
    let before = each_at (λ o. is_before s o ≡ true) sids first sid rise.0 one in
    let own : is_before sid sid ≡ true = ap (λ x. is_before x sid) (sym (same_Some s sid other)) ∙ before in
    absurd (not_both sid sid own own)
sid_once (s ∷ sids) (suc first) (suc second) sid rise one other =
    ap suc (sid_once sids first second sid rise.1 one other)

module _ (dir : Directory) (others : List SidValue) (rise : Rise dir.objects) (up : SidsRise others) where
  first_once : (first second : ℕ) (node : Node) → IsFirst (numbers dir.objects) first node
      → IsFirst (numbers dir.objects) second node → first ≡ second
  first_once first second node a b =
      let same : a.number ≡ b.number = same_object a.number b.number (sym a.is ∙ b.is) in
      number_once 0 dir.objects first second b.number rise (a.is_number ∙ ap (λ n. Some n) same) b.is_number
    where
      same_object : (n m : ℕ) → Object n ≡ Object m → n ≡ m
      same_object n m is = cc

  other_once : (before first second : ℕ) (node : Node) → IsOther others before first node
      → IsOther others before second node → first ≡ second
  other_once before first second node a b =
      let same : a.sid ≡ b.sid = same_identifier a.sid b.sid (sym a.is ∙ b.is) in
      let at : a.at ≡ b.at = sid_once others a.at b.at b.sid up (a.is_sid ∙ ap (λ s. Some s) same) b.is_sid in
      omega (arith, a.stands, b.stands, at)
    where
      same_identifier : (s t : SidValue) → Identifier s ≡ Identifier t → s ≡ t
      same_identifier s t is = cc

  not_both_kinds : (n : ℕ) (s : SidValue) → Object n ≡ Identifier s → ⊥
  not_both_kinds n s is = cc

  node_once : (first second : ℕ) (node : Node)
      → IsFirst (numbers dir.objects) first node ⊎ IsOther others (length (numbers dir.objects)) first node
      → IsFirst (numbers dir.objects) second node ⊎ IsOther others (length (numbers dir.objects)) second node
      → first ≡ second
  node_once first second node (inl a) (inl b) = first_once first second node a b
  node_once first second node (inl a) (inr b) = absurd (not_both_kinds a.number b.sid (sym a.is ∙ b.is))
  node_once first second node (inr a) (inl b) = absurd (not_both_kinds b.number a.sid (sym b.is ∙ a.is))
  node_once first second node (inr a) (inr b) = other_once (length (numbers dir.objects)) first second node a b

-- ---- all are nodes, and all nodes are there

first_is : (dir : Directory) (place : ℕ) (node : Node) → IsFirst (numbers dir.objects) place node
    → is_node dir node ≡ true
first_is dir place node f =
    ap (is_node dir) f.is ∙ sym (has_numbers dir.objects f.number)
    ∙ any_at (λ other. nat_eq other f.number) (numbers dir.objects) place f.number f.is_number
    (eq-eqb f.number f.number refl)

other_is : (dir : Directory) (nodes : List Node) (before place : ℕ) (node : Node) (are : AreInOrder dir nodes)
    → IsOther are.others before place node → is_node dir node ≡ true
other_is dir nodes before place node are o =
    ap (is_node dir) o.is ∙ sym (are.each o.sid)
    ∙ any_at (λ s. same_sid s o.sid) are.others o.at o.sid o.is_sid (same_sid_laws.refl o.sid)

stands_in : (dir : Directory) (nodes : List Node) (are : AreInOrder dir nodes) (node : Node)
    → is_node dir node ≡ true → (place : ℕ) × (slice_get (in_order (numbers dir.objects) are.others) place ≡ Some node)
stands_in dir nodes are (Object n) is =
    let there = passing (λ other. nat_eq other n) (numbers dir.objects) (has_numbers dir.objects n ∙ is) in
    let same : there.thing ≡ n = eqb-true there.thing n there.passes in (
      there.place,
      front (map (λ number. Object number) (numbers dir.objects)) (map (λ sid. Identifier sid) are.others)
          there.place (Object n)
          (slice_get-map (λ number. Object number) (numbers dir.objects) there.place
          ∙ ap (option_map (λ number. Object number)) (there.is_thing ∙ ap (λ k. Some k) same)),
    )
stands_in dir nodes are (Identifier sid) is =
    let there = passing (λ s. same_sid s sid) are.others (are.each sid ∙ is) in
    let same : there.thing ≡ sid = one_sid there.thing sid there.passes in
    behind (map (λ number. Object number) (numbers dir.objects)) (map (λ sid. Identifier sid) are.others) there.place
    (Identifier sid)
    (slice_get-map (λ sid. Identifier sid) are.others there.place
    ∙ ap (option_map (λ sid. Identifier sid)) (there.is_thing ∙ ap (λ s. Some s) same))

pub are_nodes : (dir : Directory) (nodes : List Node) → Rise dir.objects → AreInOrder dir nodes → AreNodes dir nodes
are_nodes dir nodes rise are = record {
  once = λ first second node one other. node_once dir are.others rise are.rise first second node (at first node one)
      (at second node other);
  are = λ place node is. elim (at place node is) [
    | inl f ↦ first_is dir place node f
    | inr o ↦ other_is dir nodes (length (numbers dir.objects)) place node are o
  ];
  each = λ node is.
      let there = stands_in dir nodes are node is in
      (there.0, ap (λ l. slice_get l there.0) are.are ∙ there.1);
}
  where
    at : (place : ℕ) (node : Node) → slice_get nodes place ≡ Some node
        → IsFirst (numbers dir.objects) place node ⊎ IsOther are.others (length (numbers dir.objects)) place node
    at place node is = node_at (numbers dir.objects) are.others place node
        (sym (ap (λ l. slice_get l place) are.are) ∙ is)
