-- Steps that are followed from a node to the end.
use Rattle.std.proofs.Common.{◌≡◌, ◌∙◌, ℕ, ◌+◌, Bool, true, false, Option, Some, None, List, [], ◌∷◌, sym, ap}
use Rattle.std.proofs.Common.{subst}
use Rattle.std.specs.Prelude.{if◌then◌else◌}
use Rattle.std.proofs.lemmas.Option.{same_Some}
use Rattle.ad_chains.specs.declared.edge.Edge.{Edge}
use Rattle.ad_chains.specs.declared.link.Link.{Link}
use Rattle.ad_chains.specs.Chain.{cost, length_of, IsChain, link_at, Follows}
use Rattle.ad_chains.specs.Work.{IsInto}
use Rattle.ad_chains.specs.Levels.{IsSound}

-- what the steps follow is a chain
pub followed_chain : (edges : List Edge) (end : ℕ) (links : List (Option Link)) (x : ℕ) (chain : List Edge)
    → Follows edges end links x chain → IsChain edges x chain end
followed_chain edges end links x [] f = f.0
followed_chain edges end links x (edge ∷ chain) f =
    ((f.0, f.1), f.2, followed_chain edges end links edge.to chain f.4)

-- and it is as long as is told
pub followed_length : (edges : List Edge) (end : ℕ) (links : List (Option Link)) (x : ℕ) (chain : List Edge)
    (link : Link) → Follows edges end links x chain → link_at links x ≡ Some link → length_of chain ≡ link.length
followed_length edges end links x [] link f is =
    ap (λ (l : Link). l.length) (same_Some (record { length = 0; step = None }) link (sym f.1 ∙ is))
followed_length edges end links x (edge ∷ chain) link f is =
    ap (λ (l : Link). l.length)
    (same_Some (record { length = length_of (edge ∷ chain); step = Some f.0 }) link (sym f.3 ∙ is))

-- where marks from before stand, the steps lead on as before
pub follows_on : (edges : List Edge) (end : ℕ) (links new : List (Option Link)) → ((x : ℕ) (link : Link)
    → link_at links x ≡ Some link → link_at new x ≡ Some link) → (x : ℕ) (chain : List Edge)
    → Follows edges end links x chain → Follows edges end new x chain
follows_on edges end links new kept x [] f = (f.0, kept x (record { length = 0; step = None }) f.1)
follows_on edges end links new kept x (edge ∷ chain) f = (
  f.0,
  f.1,
  f.2,
  kept x (record { length = length_of (edge ∷ chain); step = Some f.0 }) f.3,
  follows_on edges end links new kept edge.to chain f.4,
)

-- a node is marked from which an edge leads to one that was marked before
pub follows_one : (edges : List Edge) (end : ℕ) (node : ℕ) (counts : Bool) (level : ℕ) (near : Link)
    (links new : List (Option Link)) (x : ℕ) (link : Link) → link_at links node ≡ Some near
    → ((edge : Edge) → edge.counts ≡ counts → cost edge + near.length ≡ level)
    → ((y : ℕ) (other : Link) → link_at links y ≡ Some other → link_at new y ≡ Some other)
    → IsSound edges end links → IsInto edges node counts level x link → link_at new x ≡ Some link
    → (chain : List Edge) × Follows edges end new x chain
follows_one edges end node counts level near links new x link at adds kept sound asked is =
    let f : (chain : List Edge) × Follows edges end links node chain = sound node near at in
    let rest : length_of f.0 ≡ near.length = followed_length edges end links node f.0 near f.1 at in
    let long : level ≡ length_of (asked.edge ∷ f.0)
    = sym (ap (λ (n : ℕ). cost asked.edge + n) rest ∙ adds asked.edge asked.counted) in (
      asked.edge ∷ f.0,
      (
        asked.place,
        asked.is,
        asked.from,
        is ∙ ap Some (asked.mark ∙ ap (λ (n : ℕ). record { length = n; step = Some asked.place }) long),
        subst (λ (k : ℕ). Follows edges end new k f.0) (sym asked.to)
            (follows_on edges end links new kept node f.0 f.1),
      ),
    )

pub costs_none : (edge : Edge) → edge.counts ≡ false → cost edge ≡ 0
costs_none edge is = ap (λ (b : Bool). if b then 1 else 0) is

pub costs_one : (edge : Edge) → edge.counts ≡ true → cost edge ≡ 1
costs_one edge is = ap (λ (b : Bool). if b then 1 else 0) is
