-- Ways over the sets and arcs of a directory are chains.
use Rattle.std.proofs.Common.{◌≡◌, ◌∙◌, ℕ, Option, Some, List, [], ◌∷◌, refl, sym, ap, subst, arith}
use Rattle.std.specs.Prelude.{slice_get}
use Rattle.std.specs.Option.{option_map_or}
use Rattle.std.specs.Global.{Vec}
use Rattle.ad_dir_model.specs.Directory.{Directory}
use Rattle.ad_chains.specs.declared.arc.Arc.{Arc}
use Rattle.ad_chains.specs.declared.ways.Pass.{Pass}
use Rattle.ad_chains.specs.declared.ways.Way.{Way}
use Rattle.ad_chains.specs.Ways.{IsPass, arc_cost, way_length, IsWay, LeadsOn, LeadsBack, AreWaysTo, AreWaysFrom}
use Rattle.ad_control_graph.specs.declared.kind.Kind.{Kind}
use Rattle.ad_control_graph.specs.declared.node.Node.{Node}
use Rattle.ad_control_graph.specs.declared.node.Node.TheVariants.{Object}
use Rattle.ad_control.specs.Chains.{Step, IsChain, length_of, arcs_length, LeadsTo, ComesFrom}
use Rattle.ad_control_graph.specs.Kinds.{cost}
use Rattle.ad_control.specs.Chains.{AreControlling, AreReached}
use Rattle.ad_control.specs.Graph.{AreArcsOf}

-- ---- how long

-- an arc adds what its kind adds
adds : (dir : Directory) (nodes : List Node) (kinds : List Kind) (sets : List (Vec ℕ)) (arcs : List Arc) (x place y : ℕ)
    (kind : Kind) → AreArcsOf dir nodes kinds sets arcs → IsPass sets arcs x place y → slice_get kinds place ≡ Some kind
    → option_map_or arc_cost (slice_get arcs place) 0 ≡ cost kind
adds dir nodes kinds sets arcs x place y kind graph is at =
    ap (λ (a : Option Arc). option_map_or arc_cost a 0) is.1 ∙ graph.counts place is.0 kind is.1 at

adds_alike : (dir : Directory) (nodes : List Node) (kinds : List Kind) (sets : List (Vec ℕ)) (arcs : List Arc)
    (x place y : ℕ) → AreArcsOf dir nodes kinds sets arcs → IsPass sets arcs x place y
    → option_map_or arc_cost (slice_get arcs place) 0 ≡ option_map_or cost (slice_get kinds place) 0
adds_alike dir nodes kinds sets arcs x place y graph is =
    let from = graph.sound x place y is in
    adds dir nodes kinds sets arcs x place y from.kind graph is from.is_kind
    ∙ sym (ap (λ (k : Option Kind). option_map_or cost k 0) from.is_kind)

-- ---- who is told, to a node

as_long : (dir : Directory) (nodes : List Node) (kinds : List Kind) (sets : List (Vec ℕ)) (arcs : List Arc) (end : ℕ)
    (ways : List (Option Way)) → AreArcsOf dir nodes kinds sets arcs → (x : ℕ) (passes : List Pass)
    → LeadsOn sets arcs end ways x passes → way_length arcs passes ≡ arcs_length kinds passes
as_long dir nodes kinds sets arcs end ways graph x [] leads = refl
as_long dir nodes kinds sets arcs end ways graph x (pass ∷ passes) leads =
    let first = adds_alike dir nodes kinds sets arcs x pass.arc pass.next graph leads.0 in
    let rest = as_long dir nodes kinds sets arcs end ways graph pass.next passes leads.2 in
    omega (arith, first, rest)

leads_to : (dir : Directory) (nodes : List Node) (kinds : List Kind) (sets : List (Vec ℕ)) (arcs : List Arc) (end : ℕ)
    (ways : List (Option Way)) → AreArcsOf dir nodes kinds sets arcs → (x : ℕ) (passes : List Pass)
    → LeadsOn sets arcs end ways x passes → LeadsTo dir nodes kinds end ways x passes
leads_to dir nodes kinds sets arcs end ways graph x [] leads = leads
leads_to dir nodes kinds sets arcs end ways graph x (pass ∷ passes) leads = (
  graph.sound x pass.arc pass.next leads.0,
  leads.1 ∙ ap (λ (n : ℕ). Some (record { length = n; first = Some pass }))
      (as_long dir nodes kinds sets arcs end ways graph x (pass ∷ passes) leads),
  leads_to dir nodes kinds sets arcs end ways graph pass.next passes leads.2,
)

-- ---- the same, from a node

as_long_back : (dir : Directory) (nodes : List Node) (kinds : List Kind) (sets : List (Vec ℕ)) (arcs : List Arc)
    (start : ℕ) (ways : List (Option Way)) → AreArcsOf dir nodes kinds sets arcs → (y : ℕ) (passes : List Pass)
    → LeadsBack sets arcs start ways y passes → way_length arcs passes ≡ arcs_length kinds passes
as_long_back dir nodes kinds sets arcs start ways graph y [] leads = refl
as_long_back dir nodes kinds sets arcs start ways graph y (pass ∷ passes) leads =
    let first = adds_alike dir nodes kinds sets arcs pass.next pass.arc y graph leads.0 in
    let rest = as_long_back dir nodes kinds sets arcs start ways graph pass.next passes leads.2 in
    omega (arith, first, rest)

comes_from : (dir : Directory) (nodes : List Node) (kinds : List Kind) (sets : List (Vec ℕ)) (arcs : List Arc)
    (start : ℕ) (ways : List (Option Way)) → AreArcsOf dir nodes kinds sets arcs → (y : ℕ) (passes : List Pass)
    → LeadsBack sets arcs start ways y passes → ComesFrom dir nodes kinds start ways y passes
comes_from dir nodes kinds sets arcs start ways graph y [] leads = leads
comes_from dir nodes kinds sets arcs start ways graph y (pass ∷ passes) leads = (
  graph.sound pass.next pass.arc y leads.0,
  leads.1 ∙ ap (λ (n : ℕ). Some (record { length = n; first = Some pass }))
      (as_long_back dir nodes kinds sets arcs start ways graph y (pass ∷ passes) leads),
  comes_from dir nodes kinds sets arcs start ways graph pass.next passes leads.2,
)

-- ---- who has a chain

-- The way of a chain, between the places of its ends.
pub record WayOf (nodes : List Node) (sets : List (Vec ℕ)) (arcs : List Arc) (end : ℕ) (node : Node) (long : ℕ) : Type 0
  where
    pub from : ℕ
    pub is_from : slice_get nodes from ≡ Some node
    pub passes : List Pass
    pub leads : IsWay sets arcs from passes end
    pub as_long : way_length arcs passes ≡ long

way_of : (dir : Directory) (nodes : List Node) (kinds : List Kind) (sets : List (Vec ℕ)) (arcs : List Arc) (end : ℕ)
    (last : Node) → AreArcsOf dir nodes kinds sets arcs → slice_get nodes end ≡ Some last → (node : Node)
    (steps : List Step) → IsChain dir node steps last → WayOf nodes sets arcs end node (length_of steps)
way_of dir nodes kinds sets arcs end last graph end_at node [] leads = record {
  from = end;
  is_from = end_at ∙ ap (λ (n : Node). Some n) (sym leads);
  passes = [];
  leads = refl;
  as_long = refl;
}
way_of dir nodes kinds sets arcs end last graph end_at node (step ∷ steps) leads =
    let rest = way_of dir nodes kinds sets arcs end last graph end_at (Object step.to) steps leads.1 in
    let edge = graph.complete step.kind node step.to leads.0 in
    let joined : rest.from ≡ edge.to = graph.once rest.from edge.to (Object step.to) rest.is_from edge.is_to in
    let on : IsWay sets arcs edge.to rest.passes end
    = subst (λ (k : ℕ). IsWay sets arcs k rest.passes end) joined rest.leads in
    let first = adds dir nodes kinds sets arcs edge.from edge.place edge.to step.kind graph edge.pass edge.is_kind in
    let rest_long = rest.as_long in
    record {
      from = edge.from;
      is_from = edge.is_from;
      passes = record { arc = edge.place; next = edge.to } ∷ rest.passes;
      leads = (edge.pass, on);
      as_long = omega (arith, first, rest_long);
    }

-- where a way ends
end_of : (dir : Directory) (nodes : List Node) (kinds : List Kind) (sets : List (Vec ℕ)) (arcs : List Arc)
    → AreArcsOf dir nodes kinds sets arcs → (node last : Node) (steps : List Step) (start : ℕ)
    → slice_get nodes start ≡ Some node → IsChain dir node steps last → (end : ℕ) × (slice_get nodes end ≡ Some last)
end_of dir nodes kinds sets arcs graph node last [] start at leads = (start, at ∙ ap (λ (n : Node). Some n) leads)
end_of dir nodes kinds sets arcs graph node last (step ∷ steps) start at leads =
    let edge = graph.complete step.kind node step.to leads.0 in
    end_of dir nodes kinds sets arcs graph (Object step.to) last steps edge.to edge.is_to leads.1

-- ---- both directions

pub controlling : (dir : Directory) (nodes : List Node) (kinds : List Kind) (sets : List (Vec ℕ)) (arcs : List Arc)
    (end : ℕ) (ways : List (Option Way)) → AreArcsOf dir nodes kinds sets arcs → AreWaysTo sets arcs end ways
    → AreControlling dir nodes kinds end ways
controlling dir nodes kinds sets arcs end ways graph are = record {
  told = λ x way is.
      let t = are.told x way is in (t.0, leads_to dir nodes kinds sets arcs end ways graph x t.0 t.1);
  least = λ node last steps at leads.
      let w = way_of dir nodes kinds sets arcs end last graph at node steps leads in
      let way = are.least w.from w.passes w.leads in
      let long = w.as_long in
      (way.0, record { place = w.from; is_node = w.is_from; is_way = way.1 }, omega (arith, way.2, long));
}

pub reached : (dir : Directory) (nodes : List Node) (kinds : List Kind) (sets : List (Vec ℕ)) (arcs : List Arc)
    (start : ℕ) (ways : List (Option Way)) → AreArcsOf dir nodes kinds sets arcs → AreWaysFrom sets arcs start ways
    → AreReached dir nodes kinds start ways
reached dir nodes kinds sets arcs start ways graph are = record {
  told = λ y way is.
      let t = are.told y way is in (t.0, comes_from dir nodes kinds sets arcs start ways graph y t.0 t.1);
  least = λ first node steps at leads.
      let e = end_of dir nodes kinds sets arcs graph first node steps start at leads in
      let w = way_of dir nodes kinds sets arcs e.0 node graph e.1 first steps leads in
      let same : w.from ≡ start = graph.once w.from start first w.is_from at in
      let way = are.least e.0 w.passes (subst (λ (k : ℕ). IsWay sets arcs k w.passes e.0) same w.leads) in
      let long = w.as_long in
      (way.0, record { place = e.0; is_node = e.1; is_way = way.1 }, omega (arith, way.2, long));
}
