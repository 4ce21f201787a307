-- A chain between nodes that are no sets is one of passages.
use Rattle.std.proofs.Common.{◌≡◌, ℕ, ◌<◌, ◌≤◌, inl, inr, List, [], ◌∷◌, refl, sym, ap, subst}
use Rattle.std.proofs.lemmas.Bool.{cases_lt}
use Rattle.ad_chains.specs.declared.edge.Edge.{Edge}
use Rattle.ad_chains.specs.Chain.{IsEdge, IsChain}
use Rattle.ad_chains.specs.Sets.{AreSetsFrom, Passage, Direct, BySet, Passes, edges_of}

-- the passages of a chain
abbrev pub Passing : List Edge → ℕ → ℕ → List Edge → ℕ → Type 0
Passing edges first x chain y = (passages : List Passage) × Passes edges first x passages y
    × (edges_of passages ≡ chain)

direct : (edges : List Edge) (first x y : ℕ) (edge : Edge) (chain : List Edge) → IsEdge edges edge → edge.from ≡ x
    → edge.to < first → Passing edges first edge.to chain y → Passing edges first x (edge ∷ chain) y
direct edges first x y edge chain is from low rest = (
  Direct edge ∷ rest.0,
  (edge.to, low, (is, from, refl), rest.1),
  ap (λ (es : List Edge). edge ∷ es) rest.2,
)

by_set : (edges : List Edge) (first x y : ℕ) (into out : Edge) (chain : List Edge) → IsEdge edges into
    → IsEdge edges out → into.from ≡ x → first ≤ into.to → out.from ≡ into.to → out.to < first
    → Passing edges first out.to chain y → Passing edges first x (into ∷ out ∷ chain) y
by_set edges first x y into out chain is_into is_out from set joined low rest = (
  BySet into out ∷ rest.0,
  (out.to, low, (is_into, is_out, from, set, joined, refl), rest.1),
  ap (λ (es : List Edge). into ∷ out ∷ es) rest.2,
)

pub passages_of : (edges : List Edge) (first : ℕ) → AreSetsFrom first edges → (x y : ℕ) (chain : List Edge) → y < first
    → IsChain edges x chain y → Passing edges first x chain y
passages_of edges first sets x y [] low leads = ([], leads, refl)
passages_of edges first sets x y (edge ∷ []) low leads =
    direct edges first x y edge [] leads.0 leads.1 (subst (λ (k : ℕ). k < first) (sym leads.2) low)
    (passages_of edges first sets edge.to y [] low leads.2)
passages_of edges first sets x y (edge ∷ next ∷ chain) low leads = elim (cases_lt edge.to first) [
  | inl proper ↦ direct edges first x y edge (next ∷ chain) leads.0 leads.1 proper
      (passages_of edges first sets edge.to y (next ∷ chain) low leads.2)
  | inr set ↦
      let on : next.to < first = sets next leads.2.0 (subst (λ (k : ℕ). first ≤ k) (sym leads.2.1) set) in
      by_set edges first x y edge next chain leads.0 leads.2.0 leads.1 set leads.2.1 on
      (passages_of edges first sets next.to y chain low leads.2.2)
]

pub chain_of : (edges : List Edge) (first x y : ℕ) (passages : List Passage) → Passes edges first x passages y
    → IsChain edges x (edges_of passages) y
chain_of edges first x y [] pass = pass
chain_of edges first x y (Direct edge ∷ passages) pass = (
  pass.2.0,
  pass.2.1,
  subst (λ (k : ℕ). IsChain edges k (edges_of passages) y) (sym pass.2.2)
      (chain_of edges first pass.0 y passages pass.3),
)
chain_of edges first x y (BySet into out ∷ passages) pass = (
  pass.2.0,
  pass.2.2,
  (
    pass.2.1,
    pass.2.4,
    subst (λ (k : ℕ). IsChain edges k (edges_of passages) y)
        (sym pass.2.5) (chain_of edges first pass.0 y passages pass.3),
  ),
)
