-- What links say of ways, in either direction: an edge, and the one after it, are an arc.
use Rattle.std.proofs.Common.{◌≡◌, ◌∙◌, ℕ, zero, suc, ◌+◌, ◌<◌, ◌≤◌, ◌⊎◌, inl, inr, Bool, Option, Some, None}
use Rattle.std.proofs.Common.{List, [], ◌∷◌, length, refl, sym, ap, subst, arith}
use Rattle.std.specs.Prelude.{slice_get, if◌then◌else◌}
use Rattle.std.specs.Option.{option_map, option_map_or}
use Rattle.std.proofs.lemmas.Bool.{cases_lt}
use Rattle.std.proofs.lemmas.Option.{same_Some}
use Rattle.ad_chains.specs.declared.edge.Edge.{Edge}
use Rattle.ad_chains.specs.declared.link.Link.{Link}
use Rattle.ad_chains.specs.declared.arc.Arc.{Arc}
use Rattle.ad_chains.specs.declared.ways.Pass.{Pass}
use Rattle.ad_chains.specs.declared.ways.Way.{Way}
use Rattle.ad_chains.specs.Chain.{length_of, link_at, Follows, AreChainsTo}
use Rattle.ad_chains.specs.Ways.{arc_cost, way_length, way_at}
use Rattle.ad_chains.specs.Joining.{edge_at, far, step_in, HasStep, step_after, pass_seen, way_seen, IsReadable}
use Rattle.ad_chains.specs.Joining.{CanRead, AreReadable}
use Rattle.ad_chains.proofs.Marked.{marked_low}

-- ---- two edges of a chain, and their arc

-- IsPass says of a node, an arc by its place and the next node that the arc leads on.
pub record Begins (back : Bool) (edges : List Edge) (arcs : List Arc) (IsPass : ℕ → ℕ → ℕ → Type 0) (count : ℕ)
    (links : List (Option Link)) (x : ℕ) (first second : Edge) (rest : List Edge) : Type 0 where
  pub place : ℕ
  pub after : ℕ
  pub there : place < length edges
  pub there_after : after < length edges
  pub far_first : far back (edge_at edges place) ≡ first.to
  pub far_second : far back (edge_at edges after) ≡ second.to
  pub link : link_at links x ≡ Some (record { length = length_of (first ∷ second ∷ rest); step = Some place })
  pub link_after : link_at links first.to ≡ Some (record { length = length_of (second ∷ rest); step = Some after })
  pub arc_place : ℕ
  pub named : (if back then place else after) ≡ arc_place
  pub arc : Arc
  pub is_arc : slice_get arcs arc_place ≡ Some arc
  pub pass : IsPass x arc_place second.to
  pub costs : length_of (first ∷ second ∷ rest) ≡ arc_cost arc + length_of rest
  pub low : second.to < count

-- A chain from one of the first nodes has no edge, or it begins so.
pub record Pairs (back : Bool) (edges graph : List Edge) (arcs : List Arc) (IsPass : ℕ → ℕ → ℕ → Type 0) (count : ℕ)
    (end : ℕ) (links : List (Option Link)) : Type 0 where
  pub two : (x : ℕ) (first second : Edge) (rest : List Edge) → x < count
      → Follows graph end links x (first ∷ second ∷ rest)
      → Begins back edges arcs IsPass count links x first second rest
  pub not_one : (x : ℕ) (edge : Edge) → x < count → Follows graph end links x (edge ∷ []) → ⊥

-- ---- what is read

read_after : (back : Bool) (edges : List Edge) (arcs : List Arc) (P : ℕ → ℕ → ℕ → Type 0) (count : ℕ)
    (links : List (Option Link)) (x : ℕ) (first second : Edge) (rest : List Edge)
    → (b : Begins back edges arcs P count links x first second rest) → step_after back links edges b.place ≡ b.after
read_after back edges arcs P count links x first second rest b =
    ap (λ (n : ℕ). step_in (link_at links n)) b.far_first ∙ ap step_in b.link_after

read_pass : (back : Bool) (edges : List Edge) (arcs : List Arc) (P : ℕ → ℕ → ℕ → Type 0) (count : ℕ)
    (links : List (Option Link)) (x : ℕ) (first second : Edge) (rest : List Edge)
    → (b : Begins back edges arcs P count links x first second rest)
    → pass_seen back links edges b.place ≡ record { arc = b.arc_place; next = second.to }
read_pass back edges arcs P count links x first second rest b =
    ap (λ (n : ℕ). record { arc = if back then b.place else n; next = far back (edge_at edges n) })
    (read_after back edges arcs P count links x first second rest b)
    ∙ ap (λ (n : ℕ). record { arc = if back then b.place else b.after; next = n }) b.far_second
    ∙ ap (λ (n : ℕ). record { arc = n; next = second.to }) b.named

readable_by : (back : Bool) (edges : List Edge) (arcs : List Arc) (P : ℕ → ℕ → ℕ → Type 0) (count : ℕ)
    (links : List (Option Link)) (x : ℕ) (first second : Edge) (rest : List Edge)
    → (b : Begins back edges arcs P count links x first second rest) → IsReadable back links edges b.place
readable_by back edges arcs P count links x first second rest b = record {
  there = b.there;
  set = subst (λ (n : ℕ). n < length links) (sym b.far_first)
      (marked_low links first.to (record { length = length_of (second ∷ rest); step = Some b.after }) b.link_after);
  step = subst (λ (n : ℕ). HasStep (link_at links n)) (sym b.far_first)
      (subst (λ (l : Option Link). HasStep l) (sym b.link_after) (b.after, refl));
  after = subst (λ (n : ℕ). n < length edges)
      (sym (read_after back edges arcs P count links x first second rest b)) b.there_after;
}

can_read : (back : Bool) (edges graph : List Edge) (arcs : List Arc) (P : ℕ → ℕ → ℕ → Type 0) (count end : ℕ)
    (links : List (Option Link)) → Pairs back edges graph arcs P count end links → (x : ℕ) (link : Link)
    (chain : List Edge) → x < count → link_at links x ≡ Some link → Follows graph end links x chain
    → CanRead back links edges link.step
can_read back edges graph arcs P count end links pairs x link [] low at f =
    subst (λ (l : Link). CanRead back links edges l.step)
    (same_Some (record { length = 0; step = None }) link (sym f.1 ∙ at)) tt
can_read back edges graph arcs P count end links pairs x link (edge ∷ []) low at f =
    absurd (pairs.not_one x edge low f)
can_read back edges graph arcs P count end links pairs x link (edge ∷ next ∷ chain) low at f =
    let b = pairs.two x edge next chain low f in
    subst (λ (l : Link). CanRead back links edges l.step)
    (same_Some (record { length = length_of (edge ∷ next ∷ chain); step = Some b.place }) link (sym b.link ∙ at))
    (readable_by back edges arcs P count links x edge next chain b)

pub are_readable : (back : Bool) (edges graph : List Edge) (arcs : List Arc) (P : ℕ → ℕ → ℕ → Type 0) (count end : ℕ)
    (links : List (Option Link)) → Pairs back edges graph arcs P count end links → AreChainsTo graph end links
    → AreReadable back links edges count
are_readable back edges graph arcs P count end links pairs are = λ x link low at.
    let f = are.told x link at in can_read back edges graph arcs P count end links pairs x link f.0 low at f.1

-- ---- who is told has a way

-- from a node the arcs that are told lead on to the end
abbrev pub Leads : (ℕ → ℕ → ℕ → Type 0) → List Arc → ℕ → List (Option Way) → ℕ → List Pass → Type 0
Leads P arcs end ways x [] = (x ≡ end) × (way_at ways x ≡ Some (record { length = 0; first = None }))
Leads P arcs end ways x (pass ∷ passes) =
    P x pass.arc pass.next
    × (way_at ways x ≡ Some (record { length = way_length arcs (pass ∷ passes); first = Some pass }))
    × Leads P arcs end ways pass.next passes

-- what the links say of the nodes that are no sets
abbrev pub Says : Bool → ℕ → List (Option Link) → List Edge → List (Option Way) → Type 0
Says back count links edges ways = (x : ℕ) → x < count
    → way_at ways x ≡ option_map (way_seen back links edges) (link_at links x)

-- a way of the node, as long as the chain
abbrev pub WayFor : (ℕ → ℕ → ℕ → Type 0) → List Arc → ℕ → List (Option Way) → ℕ → List Edge → Type 0
WayFor P arcs end ways x chain = (passes : List Pass) × Leads P arcs end ways x passes
    × (way_length arcs passes ≡ length_of chain)

-- one arc more
way_by : (back : Bool) (edges : List Edge) (arcs : List Arc) (P : ℕ → ℕ → ℕ → Type 0) (count end : ℕ)
    (links : List (Option Link)) (ways : List (Option Way)) (x : ℕ) (first second : Edge) (rest : List Edge)
    → x < count → Says back count links edges ways → Begins back edges arcs P count links x first second rest
    → WayFor P arcs end ways second.to rest → WayFor P arcs end ways x (first ∷ second ∷ rest)
way_by back edges arcs P count end links ways x first second rest low says b on =
    let pass : Pass = record { arc = b.arc_place; next = second.to } in
    let added : option_map_or arc_cost (slice_get arcs b.arc_place) 0 ≡ arc_cost b.arc
    = ap (λ (a : Option Arc). option_map_or arc_cost a 0) b.is_arc in
    let long : length_of (first ∷ second ∷ rest) ≡ way_length arcs (pass ∷ on.0)
    = omega (arith, b.costs, added, on.2) in
    let said : way_at ways x ≡ Some (record { length = way_length arcs (pass ∷ on.0); first = Some pass })
    = says x low ∙ ap (option_map (way_seen back links edges)) b.link
    ∙ ap (λ (p : Pass). Some (record { length = length_of (first ∷ second ∷ rest); first = Some p }))
    (read_pass back edges arcs P count links x first second rest b)
    ∙ ap (λ (n : ℕ). Some (record { length = n; first = Some pass })) long in
    (pass ∷ on.0, (b.pass, said, on.1), sym long)

pub way_for : (back : Bool) (edges graph : List Edge) (arcs : List Arc) (P : ℕ → ℕ → ℕ → Type 0) (count end : ℕ)
    (links : List (Option Link)) (ways : List (Option Way)) → Pairs back edges graph arcs P count end links
    → Says back count links edges ways → (x : ℕ) (chain : List Edge) → x < count → Follows graph end links x chain
    → WayFor P arcs end ways x chain
way_for back edges graph arcs P count end links ways pairs says x [] low f =
    ([], (f.0, says x low ∙ ap (option_map (way_seen back links edges)) f.1), refl)
way_for back edges graph arcs P count end links ways pairs says x (edge ∷ []) low f =
    absurd (pairs.not_one x edge low f)
way_for back edges graph arcs P count end links ways pairs says x (edge ∷ next ∷ chain) low f =
    let b = pairs.two x edge next chain low f in
    way_by back edges arcs P count end links ways x edge next chain low says b
    (way_for back edges graph arcs P count end links ways pairs says next.to chain b.low f.4.4)

-- ---- of all nodes

past_none : (ways : List (Option Way)) (x : ℕ) → length ways ≤ x → way_at ways x ≡ None
past_none [] x past = refl
past_none (w ∷ ways) zero past = absurd (omega (arith, past))
past_none (w ∷ ways) (suc x) past = past_none ways x (omega (arith, past))

said_link : (back : Bool) (links : List (Option Link)) (edges : List Edge) (link : Option Link) (way : Way)
    → option_map (way_seen back links edges) link ≡ Some way → (l : Link) × (link ≡ Some l)
said_link back links edges None way is = absurd cc
said_link back links edges (Some l) way is = (l, refl)

pub ways_told : (back : Bool) (edges graph : List Edge) (arcs : List Arc) (P : ℕ → ℕ → ℕ → Type 0) (count end : ℕ)
    (links : List (Option Link)) (ways : List (Option Way)) → Pairs back edges graph arcs P count end links
    → Says back count links edges ways → length ways ≡ count → AreChainsTo graph end links → (x : ℕ) (way : Way)
    → way_at ways x ≡ Some way → (passes : List Pass) × Leads P arcs end ways x passes
ways_told back edges graph arcs P count end links ways pairs says long are x way is = told (cases_lt x count)
  where
    told : (x < count) ⊎ (count ≤ x) → (passes : List Pass) × Leads P arcs end ways x passes
    told (inl low) =
        let link = said_link back links edges (link_at links x) way (sym (says x low) ∙ is) in
        let f = are.told x link.0 link.1 in
        let w = way_for back edges graph arcs P count end links ways pairs says x f.0 low f.1 in (w.0, w.1)
    told (inr past) =
        let none : way_at ways x ≡ None = past_none ways x (omega (arith, long, past)) in
        let no : Some way ≡ None = sym is ∙ none in absurd cc

pub ways_least : (back : Bool) (edges graph : List Edge) (count end : ℕ) (links : List (Option Link))
    (ways : List (Option Way)) → Says back count links edges ways → AreChainsTo graph end links → (x n : ℕ) → x < count
    → (link : Link) × (link_at links x ≡ Some link) × (link.length ≤ n)
    → (way : Way) × (way_at ways x ≡ Some way) × (way.length ≤ n)
ways_least back edges graph count end links ways says are x n low link =
    (way_seen back links edges link.0, says x low ∙ ap (option_map (way_seen back links edges)) link.1, link.2)
