-- Sets of nodes: one that is put after the others, and those of single nodes.
use Rattle.std.proofs.Common.{◌≡◌, ◌∙◌, ℕ, zero, suc, ◌+◌, ◌<◌, inl, inr, Option, List, [], ◌∷◌, ◌++◌, length}
use Rattle.std.proofs.Common.{sym, ap, subst, arith, length-append}
use Rattle.std.specs.Prelude.{slice_get, slice_index}
use Rattle.std.specs.Option.{option_map_or}
use Rattle.std.specs.Global.{Vec}
use Rattle.std.proofs.lemmas.Bool.{cases_lt}
use Rattle.std.proofs.lemmas.Option.{slice_get_past}
use Rattle.ad_chains.specs.declared.arc.Arc.{Arc}
use Rattle.ad_chains.specs.Ways.{members_at, IsMember}
use Rattle.ad_control_graph.specs.declared.kind.Kind.{Kind}
use Rattle.ad_control_graph.specs.declared.node.Node.{Node}
use Rattle.ad_control_graph.specs.declared.graph.Graph.{Graph}
use Rattle.ad_control_graph.specs.Drawing.{IsSteady, IsOver, Adds, KeepsSets, Readies, IsSetOf, IsIn, AreBelow}
use Rattle.ad_control_graph.proofs.Getting.{get_front, get_seam, Stands, is_in, stands_in}

-- ---- members

pub members_front : (sets more : List (Vec ℕ)) (set : ℕ) → set < length sets
    → members_at (sets ++ more) set ≡ members_at sets set
members_front sets more set lt =
    ap (λ (m : Option (Vec ℕ)). option_map_or (λ (members : Vec ℕ). members.items) m []) (get_front sets more set lt)

members_seam : (sets : List (Vec ℕ)) (members : Vec ℕ) → members_at (sets ++ members ∷ []) (length sets) ≡ members.items
members_seam sets members =
    ap (λ (m : Option (Vec ℕ)). option_map_or (λ (members : Vec ℕ). members.items) m []) (get_seam sets members)

-- a set that has a member is there
pub member_there : (sets : List (Vec ℕ)) (set x : ℕ) → IsMember sets set x → set < length sets
member_there sets set x member = elim (cases_lt set (length sets)) [
  | inl lt ↦ lt
  | inr past ↦
      let none : members_at sets set ≡ []
      = ap (λ (m : Option (Vec ℕ)). option_map_or (λ (members : Vec ℕ). members.items) m [])
      (slice_get_past sets set past) in
      let long : length (members_at sets set) ≡ 0 = ap (λ (l : List ℕ). length l) none in
      let lt = member.1 in absurd (omega (arith, lt, long))
]

pub members_as : (sets new : List (Vec ℕ)) (set x : ℕ) → members_at new set ≡ members_at sets set → IsMember sets set x
    → IsMember new set x
members_as sets new set x same member = subst (λ (l : List ℕ). Stands l x) (sym same) member

-- ---- a set that is put

pub record IsPut (old new : Graph) (members : Vec ℕ) : Type 0 where
  pub nodes : new.nodes.items ≡ old.nodes.items
  pub arcs : new.arcs.items ≡ old.arcs.items
  pub kinds : new.kinds.items ≡ old.kinds.items
  pub sets : new.sets.items ≡ old.sets.items ++ members ∷ []

kept : (old new : Graph) (members : Vec ℕ) → IsPut old new members → (set : ℕ) → set < length old.sets.items
    → members_at new.sets.items set ≡ members_at old.sets.items set
kept old new members put set lt =
    ap (λ (l : List (Vec ℕ)). members_at l set) put.sets ∙ members_front old.sets.items (members ∷ []) set lt

last : (old new : Graph) (members : Vec ℕ) → IsPut old new members
    → members_at new.sets.items (length old.sets.items) ≡ members.items
last old new members put =
    ap (λ (l : List (Vec ℕ)). members_at l (length old.sets.items)) put.sets ∙ members_seam old.sets.items members

longer : (old new : Graph) (members : Vec ℕ) → IsPut old new members
    → length new.sets.items ≡ length old.sets.items + 1
longer old new members put =
    ap (λ (l : List (Vec ℕ)). length l) put.sets ∙ length-append old.sets.items (members ∷ [])

pub put_keeps : (old new : Graph) (members : Vec ℕ) → IsPut old new members → KeepsSets old new
put_keeps old new members put = record {
  sets = λ set x lt. members_as old.sets.items new.sets.items set x (kept old new members put set lt);
  only = λ set x lt. members_as new.sets.items old.sets.items set x (sym (kept old new members put set lt));
  more = λ set lt. let long = longer old new members put in omega (arith, lt, long);
}

pub put_readies : (old new : Graph) (members : Vec ℕ) → IsPut old new members → Readies old new
put_readies old new members put = record {
  nodes = put.nodes;
  arcs = put.arcs;
  kinds = put.kinds;
  keeps = put_keeps old new members put;
}

pub put_is : (old new : Graph) (members : Vec ℕ) (place : ℕ) → place ≡ length old.sets.items → IsPut old new members
    → IsSetOf new place (IsIn members.items)
put_is old new members place at put =
    let here : members_at new.sets.items place ≡ members.items
    = ap (members_at new.sets.items) at ∙ last old new members put in
    record {
      there = let long = longer old new members put in omega (arith, at, long);
      only = λ x member. is_in members.items x (subst (λ (l : List ℕ). Stands l x) here member);
      all = λ x is. subst (λ (l : List ℕ). Stands l x) (sym here) (stands_in members.items x is);
    }

-- its members are nodes, where those of the others are
below : (old new : Graph) (members : Vec ℕ) → IsPut old new members → IsSteady old
    → AreBelow (length old.nodes.items) members.items → (set x : ℕ) → IsMember new.sets.items set x
    → x < length old.nodes.items
below old new members put steady low set x member =
    let there = member_there new.sets.items set x member in
    let long = longer old new members put in
    elim (cases_lt set (length old.sets.items)) [
      | inl lt ↦
          steady.members set x
          (members_as new.sets.items old.sets.items set x (sym (kept old new members put set lt)) member)
      | inr past ↦
          let at : set ≡ length old.sets.items = omega (arith, there, long, past) in
          let here : members_at new.sets.items set ≡ members.items
          = ap (members_at new.sets.items) at ∙ last old new members put in
          let is = is_in members.items x (subst (λ (l : List ℕ). Stands l x) here member) in low is.0 x is.1
    ]

pub put_over : (old new : Graph) (members : Vec ℕ) → AreBelow (length old.nodes.items) members.items
    → IsPut old new members → (all : List Node) → IsOver all old → IsOver all new
put_over old new members low put all over =
    let steady = over.steady in
    let count : length new.nodes.items ≡ length old.nodes.items = ap (λ (l : List Node). length l) put.nodes in
    let arcs : length new.arcs.items ≡ length old.arcs.items = ap (λ (l : List Arc). length l) put.arcs in
    let kinds : length new.kinds.items ≡ length old.kinds.items = ap (λ (l : List Kind). length l) put.kinds in
    let long = longer old new members put in
    let ready = steady.ready in record {
      nodes = put.nodes ∙ over.nodes;
      steady = record {
        ready = omega (arith, count, long, ready);
        lone = λ x lt.
            let low : x < length old.nodes.items = omega (arith, lt, count) in
            kept old new members put x (omega (arith, low, ready)) ∙ steady.lone x low;
        kinds = kinds ∙ steady.kinds ∙ sym arcs;
        members = λ set x member.
            let low = below old new members put steady low set x member in omega (arith, low, count);
        ends = λ place arc at.
            let ends = steady.ends place arc (sym (ap (λ (l : List Arc). slice_get l place) put.arcs) ∙ at) in
            let first = ends.0 in
            let second = ends.1 in (omega (arith, first, long), omega (arith, second, count));
        counts = λ place arc kind at is.
            steady.counts place arc kind (sym (ap (λ (l : List Arc). slice_get l place) put.arcs) ∙ at)
            (sym (ap (λ (l : List Kind). slice_get l place) put.kinds) ∙ is);
      };
    }

-- ---- the set of a single node

one : (from at x : ℕ) → at < length (from ∷ []) → slice_index (from ∷ []) at ≡ x → x ≡ from
one from zero x lt is = sym is
one from (suc at) x lt is = absurd (omega (arith, lt))

-- what is drawn from the first sets is drawn from one node
pub from_one : (old new : Graph) (kind : Kind) (from to : ℕ) → IsSteady old → from < length old.nodes.items
    → Adds old new kind to (λ x. IsMember old.sets.items from x) → Adds old new kind to (λ x. x ≡ from)
from_one old new kind from to steady low adds = record {
  keeps = adds.keeps;
  kinds = adds.kinds;
  only = λ x place y pass. elim (adds.only x place y pass) [
    | inl before ↦ inl before
    | inr drawn ↦
        let is : Stands (from ∷ []) x = subst (λ (l : List ℕ). Stands l x) (steady.lone from low) drawn.2 in
        inr (drawn.0, drawn.1, one from is.0 x is.1 is.2)
  ];
  all = λ x same.
      adds.all x (subst (λ (l : List ℕ). Stands l x) (sym (steady.lone from low)) (0, omega arith, sym same));
}
