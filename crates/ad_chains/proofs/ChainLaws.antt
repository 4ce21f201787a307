-- What follows from what is told.
use Rattle.std.proofs.Common.{◌≡◌, ◌∙◌, ℕ, ◌≤◌, Bool, true, Option, Some, None, List, [], ◌∷◌, refl, sym, ap, subst}
use Rattle.std.specs.Prelude.{is_some}
use Rattle.std.proofs.lemmas.Option.{same_Some}
use Rattle.ad_chains.specs.declared.edge.Edge.{Edge}
use Rattle.ad_chains.specs.declared.link.Link.{Link}
use Rattle.ad_chains.specs.Chain.{length_of, IsChain, link_at, AreChainsTo, IsClosedSet}
use Rattle.ad_chains.proofs.Marked.{is_marked}
use Rattle.ad_chains.proofs.Following.{followed_chain, followed_length}

pub chain_told : (edges : List Edge) (end : ℕ) (links : List (Option Link)) (x : ℕ) (link : Link)
    → AreChainsTo edges end links → link_at links x ≡ Some link → (chain : List Edge)
    × IsChain edges x chain end × (length_of chain ≡ link.length)
chain_told edges end links x link are is =
    let f = are.told x link is in
    (f.0, followed_chain edges end links x f.0 f.1, followed_length edges end links x f.0 link f.1 is)

pub least_told : (edges : List Edge) (end : ℕ) (links : List (Option Link)) (x : ℕ) (link : Link) (chain : List Edge)
    → AreChainsTo edges end links → link_at links x ≡ Some link → IsChain edges x chain end
    → link.length ≤ length_of chain
least_told edges end links x link chain are is leads =
    let m = are.least x chain leads in
    subst (λ (l : Link). l.length ≤ length_of chain) (same_Some m.0 link (sym m.1 ∙ is)) m.2

pub nobody_left_out : (edges : List Edge) (end : ℕ) (links : List (Option Link)) (x : ℕ) (chain : List Edge)
    → AreChainsTo edges end links → link_at links x ≡ None → IsChain edges x chain end → ⊥
nobody_left_out edges end links x chain are none leads =
    let m = are.least x chain leads in let no : Some m.0 ≡ None = sym m.1 ∙ none in cc

chain_in : (edges : List Edge) (end : ℕ) (set : ℕ → Bool) → IsClosedSet edges end set → (x : ℕ) (chain : List Edge)
    → IsChain edges x chain end → set x ≡ true
chain_in edges end set closed x [] is = ap set is ∙ closed.has
chain_in edges end set closed x (edge ∷ chain) is =
    ap set (sym is.1) ∙ closed.goes_on edge is.0 (chain_in edges end set closed edge.to chain is.2)

pub told_in : (edges : List Edge) (end : ℕ) (links : List (Option Link)) (set : ℕ → Bool) (x : ℕ) (link : Link)
    → AreChainsTo edges end links → IsClosedSet edges end set → link_at links x ≡ Some link → set x ≡ true
told_in edges end links set x link are closed is =
    let c = chain_told edges end links x link are is in chain_in edges end set closed x c.0 c.1

-- those that are told are such a set
pub told_closed : (edges : List Edge) (end : ℕ) (links : List (Option Link)) → AreChainsTo edges end links
    → IsClosedSet edges end (λ x. is_some (link_at links x))
told_closed edges end links are = record {
  has = let m = are.least end [] refl in ap (λ (l : Option Link). is_some l) m.1;
  goes_on = λ edge is told.
      let link = is_marked (link_at links edge.to) told in
      let rest = chain_told edges end links edge.to link.0 are link.1 in
      let m = are.least edge.from (edge ∷ rest.0) (is, refl, rest.1) in ap (λ (l : Option Link). is_some l) m.1;
}
