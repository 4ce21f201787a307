-- What follows from what is told of chains.
use Rattle.std.proofs.Common.{◌≡◌, ◌∙◌, ℕ, ◌+◌, Option, Some, None, List, [], ◌∷◌, ◌++◌, refl, sym, ap, subst, arith}
use Rattle.std.specs.Prelude.{slice_get}
use Rattle.std.specs.Option.{option_map_or}
use Rattle.std.proofs.lemmas.Option.{same_Some}
use Rattle.ad_dir_model.specs.Directory.{Directory}
use Rattle.ad_chains.specs.declared.ways.Pass.{Pass}
use Rattle.ad_chains.specs.declared.ways.Way.{Way}
use Rattle.ad_chains.specs.Ways.{way_at}
use Rattle.ad_control_graph.specs.declared.kind.Kind.{Kind}
use Rattle.ad_control_graph.specs.declared.node.Node.{Node}
use Rattle.ad_control_graph.specs.declared.node.Node.TheVariants.{Object}
use Rattle.ad_control.specs.Edges.{IsEdge}
use Rattle.ad_control.specs.Chains.{Step, IsChain, length_of, arcs_length, LeadsTo, ComesFrom}
use Rattle.ad_control_graph.specs.Kinds.{cost}
use Rattle.ad_control.specs.Chains.{AreControlling, AreReached, IsToldOf}

-- a chain as long as some arcs
abbrev pub Chained : Directory → Node → Node → ℕ → Type 0
Chained dir node last long = (steps : List Step) × IsChain dir node steps last × (length_of steps ≡ long)

kind_adds : (kinds : List Kind) (place : ℕ) (kind : Kind) → slice_get kinds place ≡ Some kind
    → option_map_or cost (slice_get kinds place) 0 ≡ cost kind
kind_adds kinds place kind is = ap (λ (k : Option Kind). option_map_or cost k 0) is

-- ---- to a node

chain_to : (dir : Directory) (nodes : List Node) (kinds : List Kind) (end : ℕ) (ways : List (Option Way)) (last : Node)
    → slice_get nodes end ≡ Some last → (x : ℕ) (node : Node) (passes : List Pass) → slice_get nodes x ≡ Some node
    → LeadsTo dir nodes kinds end ways x passes → Chained dir node last (arcs_length kinds passes)
chain_to dir nodes kinds end ways last end_at x node [] at leads =
    ([], same_Some node last (sym at ∙ ap (slice_get nodes) leads.0 ∙ end_at), refl)
chain_to dir nodes kinds end ways last end_at x node (pass ∷ passes) at leads =
    let arc = leads.0 in
    let rest = chain_to dir nodes kinds end ways last end_at pass.next (Object arc.number) passes arc.is_object leads.2
    in
    let own : arc.node ≡ node = same_Some arc.node node (sym arc.is_node ∙ at) in
    let first = kind_adds kinds pass.arc arc.kind arc.is_kind in
    let rest_long = rest.2 in (
      record { kind = arc.kind; to = arc.number } ∷ rest.0,
      (subst (λ (n : Node). IsEdge dir arc.kind n arc.number) own arc.is_edge, rest.1),
      omega (arith, first, rest_long),
    )

told_to : (dir : Directory) (nodes : List Node) (kinds : List Kind) (end : ℕ) (ways : List (Option Way)) (x : ℕ)
    (passes : List Pass) (way : Way) → LeadsTo dir nodes kinds end ways x passes → way_at ways x ≡ Some way
    → arcs_length kinds passes ≡ way.length
told_to dir nodes kinds end ways x [] way leads at =
    ap (λ (w : Way). w.length) (same_Some (record { length = 0; first = None }) way (sym leads.1 ∙ at))
told_to dir nodes kinds end ways x (pass ∷ passes) way leads at =
    ap (λ (w : Way). w.length) (same_Some (record { length = arcs_length kinds (pass ∷ passes); first = Some pass }) way
    (sym leads.1 ∙ at))

pub controls : (dir : Directory) (nodes : List Node) (kinds : List Kind) (end : ℕ) (ways : List (Option Way))
    (node last : Node) (way : Way) → AreControlling dir nodes kinds end ways → slice_get nodes end ≡ Some last
    → IsToldOf nodes ways node way → Chained dir node last way.length
controls dir nodes kinds end ways node last way are at is =
    let t = are.told is.place way is.is_way in
    let c = chain_to dir nodes kinds end ways last at is.place node t.0 is.is_node t.1 in
    (c.0, c.1, c.2 ∙ told_to dir nodes kinds end ways is.place t.0 way t.1 is.is_way)

pub not_controls : (dir : Directory) (nodes : List Node) (kinds : List Kind) (end : ℕ) (ways : List (Option Way))
    (node last : Node) (steps : List Step) → AreControlling dir nodes kinds end ways → slice_get nodes end ≡ Some last
    → ((way : Way) → IsToldOf nodes ways node way → ⊥) → IsChain dir node steps last → ⊥
not_controls dir nodes kinds end ways node last steps are at not leads =
    let w = are.least node last steps at leads in not w.0 w.1

-- ---- from a node

joined : (dir : Directory) (a b c : Node) (first second : List Step) → IsChain dir a first b → IsChain dir b second c
    → IsChain dir a (first ++ second) c
joined dir a b c [] second x y = subst (λ (n : Node). IsChain dir n second c) (sym x) y
joined dir a b c (step ∷ first) second x y = (x.0, joined dir (Object step.to) b c first second x.1 y)

both_long : (first second : List Step) → length_of (first ++ second) ≡ length_of first + length_of second
both_long [] second = omega arith
both_long (step ∷ first) second = let rest = both_long first second in omega (arith, rest)

chain_from : (dir : Directory) (nodes : List Node) (kinds : List Kind) (start : ℕ) (ways : List (Option Way))
    (first : Node) → slice_get nodes start ≡ Some first → (y : ℕ) (node : Node) (passes : List Pass)
    → slice_get nodes y ≡ Some node → ComesFrom dir nodes kinds start ways y passes
    → Chained dir first node (arcs_length kinds passes)
chain_from dir nodes kinds start ways first start_at y node [] at leads =
    ([], sym (same_Some node first (sym at ∙ ap (slice_get nodes) leads.0 ∙ start_at)), refl)
chain_from dir nodes kinds start ways first start_at y node (pass ∷ passes) at leads =
    let arc = leads.0 in
    let rest = chain_from dir nodes kinds start ways first start_at pass.next arc.node passes arc.is_node leads.2 in
    let own : Object arc.number ≡ node = same_Some (Object arc.number) node (sym arc.is_object ∙ at) in
    let last : List Step = record { kind = arc.kind; to = arc.number } ∷ [] in
    let adds = kind_adds kinds pass.arc arc.kind arc.is_kind in
    let rest_long = rest.2 in
    let both = both_long rest.0 last in (
      rest.0 ++ last,
      joined dir first arc.node node rest.0 last rest.1 (arc.is_edge, own),
      omega (arith, both, adds, rest_long),
    )

told_from : (dir : Directory) (nodes : List Node) (kinds : List Kind) (start : ℕ) (ways : List (Option Way)) (y : ℕ)
    (passes : List Pass) (way : Way) → ComesFrom dir nodes kinds start ways y passes → way_at ways y ≡ Some way
    → arcs_length kinds passes ≡ way.length
told_from dir nodes kinds start ways y [] way leads at =
    ap (λ (w : Way). w.length) (same_Some (record { length = 0; first = None }) way (sym leads.1 ∙ at))
told_from dir nodes kinds start ways y (pass ∷ passes) way leads at =
    ap (λ (w : Way). w.length) (same_Some (record { length = arcs_length kinds (pass ∷ passes); first = Some pass }) way
    (sym leads.1 ∙ at))

pub reaches : (dir : Directory) (nodes : List Node) (kinds : List Kind) (start : ℕ) (ways : List (Option Way))
    (first node : Node) (way : Way) → AreReached dir nodes kinds start ways → slice_get nodes start ≡ Some first
    → IsToldOf nodes ways node way → Chained dir first node way.length
reaches dir nodes kinds start ways first node way are at is =
    let t = are.told is.place way is.is_way in
    let c = chain_from dir nodes kinds start ways first at is.place node t.0 is.is_node t.1 in
    (c.0, c.1, c.2 ∙ told_from dir nodes kinds start ways is.place t.0 way t.1 is.is_way)

pub not_reaches : (dir : Directory) (nodes : List Node) (kinds : List Kind) (start : ℕ) (ways : List (Option Way))
    (first node : Node) (steps : List Step) → AreReached dir nodes kinds start ways → slice_get nodes start ≡ Some first
    → ((way : Way) → IsToldOf nodes ways node way → ⊥) → IsChain dir first steps node → ⊥
not_reaches dir nodes kinds start ways first node steps are at not leads =
    let w = are.least first node steps at leads in not w.0 w.1
