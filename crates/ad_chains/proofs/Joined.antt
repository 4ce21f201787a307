-- The edges of arcs and of members: which they are.
use Rattle.std.proofs.Common.{◌≡◌, ◌∙◌, ℕ, zero, suc, ◌+◌, ◌<◌, ◌⊎◌, inl, inr, Some, List, [], ◌∷◌, ◌++◌, map, length}
use Rattle.std.proofs.Common.{refl, sym, ap, subst, arith}
use Rattle.std.specs.Prelude.{slice_get}
use Rattle.std.specs.Global.{Vec}
use Rattle.std.proofs.lemmas.Option.{same_Some, slice_get-get_or, slice_get_within, get_or_from_slice_get}
use Rattle.ad_chains.specs.declared.edge.Edge.{Edge}
use Rattle.ad_chains.specs.declared.arc.Arc.{Arc}
use Rattle.ad_chains.specs.Chain.{IsEdge}
use Rattle.ad_chains.specs.Ways.{IsMember, AreMembersWithin, AreArcsWithin}
use Rattle.ad_chains.specs.Work.{IsWithin}
use Rattle.ad_chains.specs.Joining.{arc_edge, member_edge, member_edges, edges_for}

-- ---- places in lists

mapped : {A B : Type 0} (f : A → B) (xs : List A) (k : ℕ) (x : A) → slice_get xs k ≡ Some x
    → slice_get (map f xs) k ≡ Some (f x)
mapped f [] k x is = absurd cc
mapped f (y ∷ xs) zero x is = ap (λ z. Some (f z)) (same_Some y x is)
mapped f (y ∷ xs) (suc k) x is = mapped f xs k x is

unmapped : {A B : Type 0} (f : A → B) (xs : List A) (k : ℕ) (z : B) → slice_get (map f xs) k ≡ Some z
    → (x : A) × (slice_get xs k ≡ Some x) × (f x ≡ z)
unmapped f [] k z is = absurd cc
unmapped f (y ∷ xs) zero z is = (y, refl, same_Some (f y) z is)
unmapped f (y ∷ xs) (suc k) z is = unmapped f xs k z is

in_first : {A : Type 0} (xs ys : List A) (k : ℕ) (x : A) → slice_get xs k ≡ Some x → slice_get (xs ++ ys) k ≡ Some x
in_first [] ys k x is = absurd cc
in_first (y ∷ xs) ys zero x is = is
in_first (y ∷ xs) ys (suc k) x is = in_first xs ys k x is

in_second : (xs ys : List Edge) (edge : Edge) → IsEdge ys edge → IsEdge (xs ++ ys) edge
in_second [] ys edge is = is
in_second (x ∷ xs) ys edge is = let rest = in_second xs ys edge is in (suc rest.0, rest.1)

in_either : (xs ys : List Edge) (k : ℕ) (edge : Edge) → slice_get (xs ++ ys) k ≡ Some edge
    → (slice_get xs k ≡ Some edge) ⊎ IsEdge ys edge
in_either [] ys k edge is = inr (k, is)
in_either (x ∷ xs) ys zero edge is = inl is
in_either (x ∷ xs) ys (suc k) edge is = in_either xs ys k edge is

-- ---- the edges of members

member_there : (node : ℕ) (sets : List (Vec ℕ)) (set x : ℕ) → IsMember sets set x
    → IsEdge (member_edges node sets) (member_edge (node + set) x)
member_there node [] set x is = absurd (omega (arith, is.1))
member_there node (members ∷ sets) zero x is =
    let at = slice_get-get_or members.items is.0 0 is.1 ∙ ap (λ (n : ℕ). Some n) is.2 in
    let there = mapped (member_edge node) members.items is.0 x at in
    let same : node + zero ≡ node = omega arith in
    subst (λ (n : ℕ). IsEdge (map (member_edge node) members.items ++ member_edges (node + 1) sets) (member_edge n x))
    (sym same) (
      is.0,
      in_first (map (member_edge node) members.items) (member_edges (node + 1) sets) is.0
          (member_edge node x) there,
    )
member_there node (members ∷ sets) (suc set) x is =
    let same : node + 1 + set ≡ node + suc set = omega arith in
    in_second (map (member_edge node) members.items) (member_edges (node + 1) sets) (member_edge (node + suc set) x)
    (subst (λ (n : ℕ). IsEdge (member_edges (node + 1) sets) (member_edge n x)) same
    (member_there (node + 1) sets set x is))

-- a member and its set, of an edge
abbrev pub IsOfMember : ℕ → List (Vec ℕ) → Edge → Type 0
IsOfMember node sets edge = (set x : ℕ) × IsMember sets set x × (edge ≡ member_edge (node + set) x)

of_members : (node : ℕ) (sets : List (Vec ℕ)) (place : ℕ) (edge : Edge)
    → slice_get (member_edges node sets) place ≡ Some edge → IsOfMember node sets edge
of_members node [] place edge is = absurd cc
of_members node (members ∷ sets) place edge is =
    elim (in_either (map (member_edge node) members.items) (member_edges (node + 1) sets) place edge is) [
      | inl first ↦
          let m = unmapped (member_edge node) members.items place edge first in
          let same : node ≡ node + 0 = omega arith in (
            0,
            m.0,
            (
              place,
              slice_get_within members.items place m.0 m.1,
              get_or_from_slice_get members.items place m.0 0 m.1,
            ),
            sym m.2 ∙ ap (λ (n : ℕ). member_edge n m.0) same,
          )
      | inr second ↦
          let m = of_members (node + 1) sets second.0 edge second.1 in
          let same : node + 1 + m.0 ≡ node + suc m.0 = omega arith in
          (suc m.0, m.1, m.2, m.3 ∙ ap (λ (n : ℕ). member_edge n m.1) same)
    ]

-- ---- all edges

pub arc_at : (count : ℕ) (sets : List (Vec ℕ)) (arcs : List Arc) (place : ℕ) (arc : Arc)
    → slice_get arcs place ≡ Some arc → slice_get (edges_for count sets arcs) place ≡ Some (arc_edge count arc)
arc_at count sets arcs place arc is =
    in_first (map (arc_edge count) arcs) (member_edges count sets) place (arc_edge count arc)
    (mapped (arc_edge count) arcs place arc is)

pub member_at : (count : ℕ) (sets : List (Vec ℕ)) (arcs : List Arc) (set x : ℕ) → IsMember sets set x
    → IsEdge (edges_for count sets arcs) (member_edge (count + set) x)
member_at count sets arcs set x is =
    in_second (map (arc_edge count) arcs) (member_edges count sets) (member_edge (count + set) x)
    (member_there count sets set x is)

-- an edge is an arc's, at its place, or a member's
abbrev pub IsOf : ℕ → List (Vec ℕ) → List Arc → ℕ → Edge → Type 0
IsOf count sets arcs place edge =
    ((arc : Arc) × (slice_get arcs place ≡ Some arc) × (arc_edge count arc ≡ edge)) ⊎ IsOfMember count sets edge

pub edge_of : (count : ℕ) (sets : List (Vec ℕ)) (arcs : List Arc) (place : ℕ) (edge : Edge)
    → slice_get (edges_for count sets arcs) place ≡ Some edge → IsOf count sets arcs place edge
edge_of count sets arcs place edge is =
    elim (in_either (map (arc_edge count) arcs) (member_edges count sets) place edge is) [
      | inl first ↦ inl (unmapped (arc_edge count) arcs place edge first)
      | inr second ↦ inr (of_members count sets second.0 edge second.1)
    ]

member_set : (sets : List (Vec ℕ)) (set x : ℕ) → IsMember sets set x → set < length sets
member_set [] set x is = absurd (omega (arith, is.1))
member_set (members ∷ sets) zero x is = omega arith
member_set (members ∷ sets) (suc set) x is = let low = member_set sets set x is in omega (arith, low)

pub edges_within : (count : ℕ) (sets : List (Vec ℕ)) (arcs : List Arc) → AreMembersWithin count sets
    → AreArcsWithin count (length sets) arcs → IsWithin (count + length sets) (edges_for count sets arcs)
edges_within count sets arcs members within = λ place edge is. both place edge (edge_of count sets arcs place edge is)
  where
    both : (place : ℕ) (edge : Edge) → IsOf count sets arcs place edge → (edge.from < count + length sets)
        × (edge.to < count + length sets)
    both place edge (inl of_arc) =
        let w = within place of_arc.0 of_arc.1 in
        subst (λ (e : Edge). (e.from < count + length sets) × (e.to < count + length sets)) of_arc.2
        (omega (arith, w.0), omega (arith, w.1))
    both place edge (inr of_member) =
        let x = members of_member.0 of_member.1 of_member.2 in
        let set = member_set sets of_member.0 of_member.1 of_member.2 in
        subst (λ (e : Edge). (e.from < count + length sets) × (e.to < count + length sets)) (sym of_member.3)
        (omega (arith, x), omega (arith, set))
