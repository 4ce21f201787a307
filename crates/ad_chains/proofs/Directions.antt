-- Ways to a node, and ways from one.
use Rattle.std.proofs.Common.{◌≡◌, ◌∙◌, ℕ, ◌+◌, ◌<◌, inl, inr, true, false, Option, Some, List, [], ◌∷◌, map, length}
use Rattle.std.proofs.Common.{refl, sym, ap, subst, arith}
use Rattle.std.specs.Prelude.{slice_get}
use Rattle.std.specs.Option.{option_map_or}
use Rattle.std.specs.Global.{Vec}
use Rattle.std.proofs.lemmas.Option.{slice_get_within, get_or_from_slice_get}
use Rattle.ad_chains.specs.declared.edge.Edge.{Edge}
use Rattle.ad_chains.specs.declared.link.Link.{Link}
use Rattle.ad_chains.specs.declared.arc.Arc.{Arc}
use Rattle.ad_chains.specs.declared.ways.Pass.{Pass}
use Rattle.ad_chains.specs.declared.ways.Way.{Way}
use Rattle.ad_chains.specs.Chain.{cost, length_of, IsChain, Follows, AreChainsTo, turned, turned_back}
use Rattle.ad_chains.specs.Ways.{IsMember, AreMembersWithin, AreArcsWithin, IsPass, arc_cost, way_length, IsWay}
use Rattle.ad_chains.specs.Ways.{LeadsOn, LeadsBack, AreWaysTo, AreWaysFrom}
use Rattle.ad_chains.specs.Joining.{arc_edge, member_edge, edges_for, edge_at}
use Rattle.ad_chains.proofs.Turned.{turned_edge, chain_turned, turned_length}
use Rattle.ad_chains.proofs.Joined.{IsOf, edge_of, arc_at, member_at}
use Rattle.ad_chains.proofs.WayLaws.{Begins, Pairs, Leads, Says, ways_told, ways_least}

-- an edge where one is
there : (edges : List Edge) (place : ℕ) (edge : Edge) → slice_get edges place ≡ Some edge → edge_at edges place ≡ edge
there edges place edge is = get_or_from_slice_get edges place edge (record { from = 0; to = 0; counts = false }) is

-- ---- to a node

to_by : (count : ℕ) (sets : List (Vec ℕ)) (arcs : List Arc) (end : ℕ) (links : List (Option Link)) (x : ℕ)
    (first second : Edge) (rest : List Edge) → AreMembersWithin count sets → AreArcsWithin count (length sets) arcs
    → x < count → (f : Follows (edges_for count sets arcs) end links x (first ∷ second ∷ rest))
    → IsOf count sets arcs f.0 first → IsOf count sets arcs f.4.0 second
    → Begins false (edges_for count sets arcs) arcs (IsPass sets arcs) count links x first second rest
to_by count sets arcs end links x first second rest members within low f (inl arc) of_second =
    let begin : count + arc.0.set ≡ x = ap (λ (e : Edge). e.from) arc.2 ∙ f.2 in absurd (omega (arith, begin, low))
to_by count sets arcs end links x first second rest members within low f (inr m) (inr other) =
    let set : first.to ≡ count + m.0 = ap (λ (e : Edge). e.to) m.3 in
    let begin : second.from ≡ other.1 = ap (λ (e : Edge). e.from) other.3 in
    let few : other.1 < count = members other.0 other.1 other.2 in
    let joined : second.from ≡ first.to = f.4.2 in
    absurd (omega (arith, set, begin, joined, few))
to_by count sets arcs end links x first second rest members within low f (inr m) (inl arc) =
    let edges : List Edge = edges_for count sets arcs in
    let set : first.to ≡ count + m.0 = ap (λ (e : Edge). e.to) m.3 in
    let begin : count + arc.0.set ≡ second.from = ap (λ (e : Edge). e.from) arc.2 in
    let joined : second.from ≡ first.to = f.4.2 in
    let same : m.0 ≡ arc.0.set = omega (arith, set, begin, joined) in
    let own : m.1 ≡ x = sym (ap (λ (e : Edge). e.from) m.3) ∙ f.2 in
    let free : cost first ≡ 0 = ap (λ (e : Edge). cost e) m.3 in
    let counted : arc_cost arc.0 ≡ cost second = ap (λ (e : Edge). cost e) arc.2 in
    let to : arc.0.to ≡ second.to = ap (λ (e : Edge). e.to) arc.2 in
    record {
      place = f.0;
      after = f.4.0;
      there = slice_get_within edges f.0 first f.1;
      there_after = slice_get_within edges f.4.0 second f.4.1;
      far_first = ap (λ (e : Edge). e.to) (there edges f.0 first f.1);
      far_second = ap (λ (e : Edge). e.to) (there edges f.4.0 second f.4.1);
      link = f.3;
      link_after = f.4.3;
      arc_place = f.4.0;
      named = refl;
      arc = arc.0;
      is_arc = arc.1;
      pass = (
        arc.0,
        arc.1,
        subst (λ (y : ℕ). IsMember sets arc.0.set y) own (subst (λ (s : ℕ). IsMember sets s m.1) same m.2),
        to,
      );
      costs = omega (arith, free, counted);
      low = subst (λ (y : ℕ). y < count) to (within f.4.0 arc.0 arc.1).1;
    }

to_not_one : (count : ℕ) (sets : List (Vec ℕ)) (arcs : List Arc) (end x into : ℕ) (first : Edge) → x < count
    → end < count → first.from ≡ x → first.to ≡ end → IsOf count sets arcs into first → ⊥
to_not_one count sets arcs end x into first low few from to (inl arc) =
    let begin : count + arc.0.set ≡ x = ap (λ (e : Edge). e.from) arc.2 ∙ from in omega (arith, begin, low)
to_not_one count sets arcs end x into first low few from to (inr m) =
    let set : first.to ≡ count + m.0 = ap (λ (e : Edge). e.to) m.3 in omega (arith, set, to, few)

pub pairs_to : (count : ℕ) (sets : List (Vec ℕ)) (arcs : List Arc) (end : ℕ) (links : List (Option Link))
    → AreMembersWithin count sets → AreArcsWithin count (length sets) arcs → end < count
    → Pairs false (edges_for count sets arcs) (edges_for count sets arcs) arcs (IsPass sets arcs) count end links
pairs_to count sets arcs end links members within few = record {
  two = λ x first second rest low f.
      to_by count sets arcs end links x first second rest members within low f
      (edge_of count sets arcs f.0 first f.1) (edge_of count sets arcs f.4.0 second f.4.1);
  not_one = λ x edge low f.
      to_not_one count sets arcs end x f.0 edge low few f.2 f.4.0 (edge_of count sets arcs f.0 edge f.1);
}

-- a way is a chain, over the sets of its arcs
chain_for : (count : ℕ) (sets : List (Vec ℕ)) (arcs : List Arc) (end x : ℕ) (passes : List Pass)
    → IsWay sets arcs x passes end → (chain : List Edge) × IsChain (edges_for count sets arcs) x chain end
    × (length_of chain ≡ way_length arcs passes)
chain_for count sets arcs end x [] is = ([], is, refl)
chain_for count sets arcs end x (pass ∷ passes) is =
    let rest = chain_for count sets arcs end pass.next passes is.1 in
    let arc : Arc = is.0.0 in
    let first : Edge = member_edge (count + arc.set) x in
    let second : Edge = arc_edge count arc in
    let on : IsChain (edges_for count sets arcs) arc.to rest.0 end
    = subst (λ (y : ℕ). IsChain (edges_for count sets arcs) y rest.0 end) (sym is.0.3) rest.1 in
    let added : option_map_or arc_cost (slice_get arcs pass.arc) 0 ≡ arc_cost arc
    = ap (λ (a : Option Arc). option_map_or arc_cost a 0) is.0.1 in (
      first ∷ second ∷ rest.0,
      (
        member_at count sets arcs arc.set x is.0.2,
        refl,
        ((pass.arc, arc_at count sets arcs pass.arc arc is.0.1), refl, on),
      ),
      omega (arith, added, rest.2),
    )

starts_low : (count : ℕ) (sets : List (Vec ℕ)) (arcs : List Arc) (end x : ℕ) (passes : List Pass)
    → AreMembersWithin count sets → end < count → IsWay sets arcs x passes end → x < count
starts_low count sets arcs end x [] members few is = subst (λ (y : ℕ). y < count) (sym is) few
starts_low count sets arcs end x (pass ∷ passes) members few is = members is.0.0.set x is.0.2

leads_on : (sets : List (Vec ℕ)) (arcs : List Arc) (end : ℕ) (ways : List (Option Way)) (x : ℕ) (passes : List Pass)
    → Leads (IsPass sets arcs) arcs end ways x passes → LeadsOn sets arcs end ways x passes
leads_on sets arcs end ways x [] leads = leads
leads_on sets arcs end ways x (pass ∷ passes) leads =
    (leads.0, leads.1, leads_on sets arcs end ways pass.next passes leads.2)

pub ways_are : (count : ℕ) (sets : List (Vec ℕ)) (arcs : List Arc) (end : ℕ) (links : List (Option Link))
    (ways : List (Option Way)) → AreMembersWithin count sets → AreArcsWithin count (length sets) arcs → end < count
    → length ways ≡ count → Says false count links (edges_for count sets arcs) ways
    → AreChainsTo (edges_for count sets arcs) end links → AreWaysTo sets arcs end ways
ways_are count sets arcs end links ways members within few long says are = record {
  told = λ x way is.
      let w = ways_told false edges edges arcs (IsPass sets arcs) count end links ways
      (pairs_to count sets arcs end links members within few) says long are x way is in
      (w.0, leads_on sets arcs end ways x w.0 w.1);
  least = λ x passes is.
      let chain = chain_for count sets arcs end x passes is in
      let link = are.least x chain.0 chain.1 in
      ways_least false edges edges count end links ways says are x (way_length arcs passes)
      (starts_low count sets arcs end x passes members few is)
      (link.0, link.1, omega (arith, link.2, chain.2));
}
  where
    edges : List Edge
    edges = edges_for count sets arcs

-- ---- from a node

-- an arc, backwards
abbrev pub IsBack : List (Vec ℕ) → List Arc → ℕ → ℕ → ℕ → Type 0
IsBack sets arcs y place x = IsPass sets arcs x place y

from_by : (count : ℕ) (sets : List (Vec ℕ)) (arcs : List Arc) (start : ℕ) (links : List (Option Link)) (y : ℕ)
    (first second : Edge) (rest : List Edge) → AreMembersWithin count sets → AreArcsWithin count (length sets) arcs
    → y < count → (f : Follows (map turned (edges_for count sets arcs)) start links y (first ∷ second ∷ rest))
    → IsOf count sets arcs f.0 (turned first) → IsOf count sets arcs f.4.0 (turned second)
    → Begins true (edges_for count sets arcs) arcs (IsBack sets arcs) count links y first second rest
from_by count sets arcs start links y first second rest members within low f (inr m) of_second =
    let set : first.from ≡ count + m.0 = ap (λ (e : Edge). e.to) m.3 in
    let begin : first.from ≡ y = f.2 in absurd (omega (arith, set, begin, low))
from_by count sets arcs start links y first second rest members within low f (inl arc) (inl other) =
    let set : count + arc.0.set ≡ first.to = ap (λ (e : Edge). e.from) arc.2 in
    let begin : other.0.to ≡ second.from = ap (λ (e : Edge). e.to) other.2 in
    let few : other.0.to < count = (within f.4.0 other.0 other.1).1 in
    let joined : second.from ≡ first.to = f.4.2 in
    absurd (omega (arith, set, begin, joined, few))
from_by count sets arcs start links y first second rest members within low f (inl arc) (inr m) =
    let edges : List Edge = edges_for count sets arcs in
    let is_first = turned_edge edges f.0 first f.1 in
    let is_second = turned_edge edges f.4.0 second f.4.1 in
    let set : count + arc.0.set ≡ first.to = ap (λ (e : Edge). e.from) arc.2 in
    let begin : second.from ≡ count + m.0 = ap (λ (e : Edge). e.to) m.3 in
    let joined : second.from ≡ first.to = f.4.2 in
    let same : m.0 ≡ arc.0.set = omega (arith, set, begin, joined) in
    let own : m.1 ≡ second.to = sym (ap (λ (e : Edge). e.from) m.3) in
    let counted : arc_cost arc.0 ≡ cost first = ap (λ (e : Edge). cost e) arc.2 in
    let free : cost second ≡ 0 = ap (λ (e : Edge). cost e) m.3 in
    let to : arc.0.to ≡ y = ap (λ (e : Edge). e.to) arc.2 ∙ f.2 in
    record {
      place = f.0;
      after = f.4.0;
      there = slice_get_within edges f.0 (turned first) is_first;
      there_after = slice_get_within edges f.4.0 (turned second) is_second;
      far_first = ap (λ (e : Edge). e.from) (there edges f.0 (turned first) is_first);
      far_second = ap (λ (e : Edge). e.from) (there edges f.4.0 (turned second) is_second);
      link = f.3;
      link_after = f.4.3;
      arc_place = f.0;
      named = refl;
      arc = arc.0;
      is_arc = arc.1;
      pass = (
        arc.0,
        arc.1,
        subst (λ (x : ℕ). IsMember sets arc.0.set x) own (subst (λ (s : ℕ). IsMember sets s m.1) same m.2),
        to,
      );
      costs = omega (arith, free, counted);
      low = subst (λ (x : ℕ). x < count) own (members m.0 m.1 m.2);
    }

from_not_one : (count : ℕ) (sets : List (Vec ℕ)) (arcs : List Arc) (start y place : ℕ) (first : Edge) → y < count
    → start < count → first.from ≡ y → first.to ≡ start → IsOf count sets arcs place (turned first) → ⊥
from_not_one count sets arcs start y place first low few from to (inr m) =
    let set : first.from ≡ count + m.0 = ap (λ (e : Edge). e.to) m.3 in omega (arith, set, from, low)
from_not_one count sets arcs start y place first low few from to (inl arc) =
    let set : count + arc.0.set ≡ first.to = ap (λ (e : Edge). e.from) arc.2 in omega (arith, set, to, few)

pub pairs_from : (count : ℕ) (sets : List (Vec ℕ)) (arcs : List Arc) (start : ℕ) (links : List (Option Link))
    → AreMembersWithin count sets → AreArcsWithin count (length sets) arcs → start < count
    → Pairs true (edges_for count sets arcs) (map turned (edges_for count sets arcs)) arcs (IsBack sets arcs) count
    start links
pairs_from count sets arcs start links members within few = record {
  two = λ y first second rest low f.
      from_by count sets arcs start links y first second rest members within low f
      (edge_of count sets arcs f.0 (turned first) (turned_edge (edges_for count sets arcs) f.0 first f.1))
      (edge_of count sets arcs f.4.0 (turned second) (turned_edge (edges_for count sets arcs) f.4.0 second f.4.1));
  not_one = λ y edge low f.
      from_not_one count sets arcs start y f.0 edge low few f.2 f.4.0
      (edge_of count sets arcs f.0 (turned edge) (turned_edge (edges_for count sets arcs) f.0 edge f.1));
}

leads_back : (sets : List (Vec ℕ)) (arcs : List Arc) (start : ℕ) (ways : List (Option Way)) (y : ℕ)
    (passes : List Pass) → Leads (IsBack sets arcs) arcs start ways y passes → LeadsBack sets arcs start ways y passes
leads_back sets arcs start ways y [] leads = leads
leads_back sets arcs start ways y (pass ∷ passes) leads =
    (leads.0, leads.1, leads_back sets arcs start ways pass.next passes leads.2)

ends_low : (count : ℕ) (sets : List (Vec ℕ)) (arcs : List Arc) (y x : ℕ) (passes : List Pass)
    → AreArcsWithin count (length sets) arcs → x < count → IsWay sets arcs x passes y → y < count
ends_low count sets arcs y x [] within few is = subst (λ (z : ℕ). z < count) is few
ends_low count sets arcs y x (pass ∷ passes) within few is =
    ends_low count sets arcs y pass.next passes within
    (subst (λ (z : ℕ). z < count) is.0.3 (within pass.arc is.0.0 is.0.1).1) is.1

pub ways_from_are : (count : ℕ) (sets : List (Vec ℕ)) (arcs : List Arc) (start : ℕ) (links : List (Option Link))
    (ways : List (Option Way)) → AreMembersWithin count sets → AreArcsWithin count (length sets) arcs → start < count
    → length ways ≡ count → Says true count links (edges_for count sets arcs) ways
    → AreChainsTo (map turned (edges_for count sets arcs)) start links → AreWaysFrom sets arcs start ways
ways_from_are count sets arcs start links ways members within few long says are = record {
  told = λ y way is.
      let w = ways_told true edges (map turned edges) arcs (IsBack sets arcs) count start links ways
      (pairs_from count sets arcs start links members within few) says long are y way is in
      (w.0, leads_back sets arcs start ways y w.0 w.1);
  least = λ y passes is.
      let chain = chain_for count sets arcs y start passes is in
      let link = are.least y (turned_back chain.0) (chain_turned edges start y chain.0 chain.1) in
      let as_long = turned_length chain.0 in
      ways_least true edges (map turned edges) count start links ways says are y (way_length arcs passes)
      (ends_low count sets arcs y start passes within few is)
      (link.0, link.1, omega (arith, link.2, chain.2, as_long));
}
  where
    edges : List Edge
    edges = edges_for count sets arcs
