-- Edges that are turned round have both ends where they had them.
use Rattle.std.proofs.Common.{◌≡◌, ℕ, zero, suc, ◌+◌, ◌<◌, Some, List, [], ◌∷◌, ◌++◌, map, refl, sym, ap, subst, arith}
use Rattle.std.specs.Prelude.{slice_get}
use Rattle.std.proofs.lemmas.Option.{same_Some}
use Rattle.ad_chains.specs.declared.edge.Edge.{Edge}
use Rattle.ad_chains.specs.Chain.{length_of, IsChain, turned, turned_back}
use Rattle.ad_chains.specs.Work.{IsWithin}

-- ---- within as many nodes

both_within : (count : ℕ) (edges : List Edge) (place : ℕ) (edge : Edge) → IsWithin count edges
    → slice_get (map turned edges) place ≡ Some edge → (edge.from < count) × (edge.to < count)
both_within count [] place edge within is = absurd cc
both_within count (x ∷ edges) zero edge within is =
    subst (λ (e : Edge). (e.from < count) × (e.to < count)) (same_Some (turned x) edge is)
    ((within 0 x refl).1, (within 0 x refl).0)
both_within count (x ∷ edges) (suc place) edge within is =
    both_within count edges place edge (λ other e at. within (suc other) e at) is

pub turned_within : (count : ℕ) (edges : List Edge) → IsWithin count edges → IsWithin count (map turned edges)
turned_within count edges within = λ place edge is. both_within count edges place edge within is

-- ---- chains backwards

edge_turned : (edges : List Edge) (place : ℕ) (edge : Edge) → slice_get edges place ≡ Some edge
    → slice_get (map turned edges) place ≡ Some (turned edge)
edge_turned [] place edge is = absurd cc
edge_turned (x ∷ edges) zero edge is = ap (λ (e : Edge). Some (turned e)) (same_Some x edge is)
edge_turned (x ∷ edges) (suc place) edge is = edge_turned edges place edge is

pub turned_edge : (edges : List Edge) (place : ℕ) (edge : Edge) → slice_get (map turned edges) place ≡ Some edge
    → slice_get edges place ≡ Some (turned edge)
turned_edge [] place edge is = absurd cc
turned_edge (x ∷ edges) zero edge is = ap (λ (e : Edge). Some (turned e)) (same_Some (turned x) edge is)
turned_edge (x ∷ edges) (suc place) edge is = turned_edge edges place edge is

joined : (edges : List Edge) (x y z : ℕ) (first second : List Edge) → IsChain edges x first y
    → IsChain edges y second z → IsChain edges x (first ++ second) z
joined edges x y z [] second a b = subst (λ (k : ℕ). IsChain edges k second z) (sym a) b
joined edges x y z (edge ∷ first) second a b = (a.0, a.1, joined edges edge.to y z first second a.2 b)

pub chain_turned : (edges : List Edge) (x y : ℕ) (chain : List Edge) → IsChain edges x chain y
    → IsChain (map turned edges) y (turned_back chain) x
chain_turned edges x y [] is = sym is
chain_turned edges x y (edge ∷ chain) is =
    joined (map turned edges) y edge.to x (turned_back chain) (turned edge ∷ [])
    (chain_turned edges edge.to y chain is.2)
    ((is.0.0, edge_turned edges is.0.0 edge is.0.1), refl, is.1)

pub turned_chain : (edges : List Edge) (x y : ℕ) (chain : List Edge) → IsChain (map turned edges) x chain y
    → IsChain edges y (turned_back chain) x
turned_chain edges x y [] is = sym is
turned_chain edges x y (edge ∷ chain) is =
    joined edges y edge.to x (turned_back chain) (turned edge ∷ [])
    (turned_chain edges edge.to y chain is.2)
    ((is.0.0, turned_edge edges is.0.0 edge is.0.1), refl, is.1)

length_both : (first second : List Edge) → length_of (first ++ second) ≡ length_of first + length_of second
length_both [] second = omega arith
length_both (edge ∷ first) second = let rest = length_both first second in omega (arith, rest)

pub turned_length : (chain : List Edge) → length_of (turned_back chain) ≡ length_of chain
turned_length [] = refl
turned_length (edge ∷ chain) =
    let both = length_both (turned_back chain) (turned edge ∷ []) in
    let rest = turned_length chain in omega (arith, both, rest)
