-- What is drawn to an object are its edges, and what was drawn stays.
use Rattle.std.proofs.Common.{◌≡◌, ◌∙◌, ℕ, ◌<◌, ◌⊎◌, inl, inr, true, false, Some, List, length, refl, sym, ap, subst}
use Rattle.std.specs.Prelude.{slice_get}
use Rattle.std.proofs.lemmas.Bool.{and_parts, both_ways}
use Rattle.std.proofs.lemmas.Option.{slice_get_within}
use Rattle.ad_dir_model.specs.Directory.{Directory}
use Rattle.ad_dir_model.specs.Objects.{is_live}
use Rattle.ad_control_graph.specs.declared.kind.Kind.{Kind}
use Rattle.ad_control_graph.specs.declared.node.Node.{Node}
use Rattle.ad_control_graph.specs.declared.node.Node.TheVariants.{Object}
use Rattle.ad_control_graph.specs.declared.graph.Graph.{Graph}
use Rattle.ad_control_graph.specs.Kinds.{row}
use Rattle.ad_control_graph.specs.Drawing.{IsPassIn, IsSteady, IsOver, Adds}
use Rattle.ad_control_graph.proofs.AddLaws.{adds_both}
use Rattle.ad_control.specs.Edges.{is_of, leads, IsEdge}
use Rattle.ad_control.specs.Chains.{IsArcFrom}
use Rattle.ad_control.specs.Graph.{IsOfArc}
use Rattle.ad_control_nodes.specs.declared.ground.Ground.{Ground}
use Rattle.ad_control_nodes.specs.Ground.{IsGround}
use Rattle.ad_control_nodes.specs.Parts.{ByWays, ByHeld, ByPlace, IsPart}
use Rattle.ad_control_nodes.proofs.Parting.{part_of, edge_of}
use Rattle.ad_control_dir.specs.Drawn.{IsDrawing, IsDrawn, Grows}

-- ---- what stays

pub grows_same : (dir : Directory) (graph : Graph) → Grows dir graph graph
grows_same dir graph = record { nodes = refl; drawn = λ kind number is. is }

pub grows_both : (dir : Directory) (a b c : Graph) → Grows dir a b → Grows dir b c → Grows dir a c
grows_both dir a b c one other = record {
  nodes = other.nodes ∙ one.nodes;
  drawn = λ kind number is. other.drawn kind number (one.drawn kind number is);
}

at_same : (old new : List Node) (place : ℕ) (node : Node) → new ≡ old → slice_get old place ≡ Some node
    → slice_get new place ≡ Some node
at_same old new place node same is = ap (λ l. slice_get l place) same ∙ is

arc_stays : (old new : Graph) (kind : Kind) (to : ℕ) (From : ℕ → Type 0) (k : Kind) (node : Node) (number : ℕ)
    → Adds old new kind to From → new.nodes.items ≡ old.nodes.items
    → IsOfArc old.nodes.items old.kinds.items old.sets.items old.arcs.items k node number
    → IsOfArc new.nodes.items new.kinds.items new.sets.items new.arcs.items k node number
arc_stays old new kind to From k node number adds same arc = record {
  from = arc.from;
  is_from = at_same old.nodes.items new.nodes.items arc.from node same arc.is_from;
  to = arc.to;
  is_to = at_same old.nodes.items new.nodes.items arc.to (Object number) same arc.is_to;
  place = arc.place;
  is_kind = adds.kinds arc.place k arc.is_kind;
  pass = adds.keeps arc.from arc.place arc.to arc.pass;
}

grows : (dir : Directory) (old new : Graph) (kind : Kind) (to : ℕ) (From : ℕ → Type 0) → Adds old new kind to From
    → new.nodes.items ≡ old.nodes.items → Grows dir old new
grows dir old new kind to From adds same = record {
  nodes = same;
  drawn = λ k number is node edge. arc_stays old new kind to From k node number adds same (is node edge);
}

-- ---- over the same nodes

pub over_after : (old new : Graph) → IsSteady old → ((nodes : List Node) → IsOver nodes old → IsOver nodes new)
    → IsOver old.nodes.items new
over_after old new steady over = over old.nodes.items (record { nodes = refl; steady = steady })

pub ground_over : (dir : Directory) (ground : Ground) (nodes : List Node) (graph : Graph) → IsGround dir nodes ground
    → IsOver nodes graph → IsGround dir graph.nodes.items ground
ground_over dir ground nodes graph is over = subst (λ (l : List Node). IsGround dir l ground) (sym over.nodes) is

pub below_over : (nodes : List Node) (graph : Graph) (to : ℕ) (node : Node) → slice_get nodes to ≡ Some node
    → IsOver nodes graph → to < length graph.nodes.items
below_over nodes graph to node there over =
    let less : to < length nodes = slice_get_within nodes to node there in
    subst (λ (l : List Node). to < length l) (sym over.nodes) less

-- ---- three parts, one after the other

pub all_parts : (dir : Directory) (nodes : List Node) (ground : Ground) (a b c d : Graph) (kind : Kind) (number to : ℕ)
    → Adds a b kind to (ByWays dir ground.parties.tokens.all.items ground.at.items kind number)
    → Adds b c kind to (ByHeld dir ground.parties.tokens.all.items ground.at.items kind number)
    → Adds c d kind to (ByPlace dir nodes kind number)
    → Adds a d kind to (IsPart dir nodes ground.parties.tokens.all.items ground.at.items kind number)
all_parts dir nodes ground a b c d kind number to one two three =
    adds_both a b d kind to (ByWays dir ground.parties.tokens.all.items ground.at.items kind number)
    (λ x. ByHeld dir ground.parties.tokens.all.items ground.at.items kind number x ⊎ ByPlace dir nodes kind number x) one
    (adds_both b c d kind to (ByHeld dir ground.parties.tokens.all.items ground.at.items kind number)
    (ByPlace dir nodes kind number) two three)

pub grows_by : (dir : Directory) (ground : Ground) (a b c d : Graph) (kind : Kind) (number to : ℕ)
    → d.nodes.items ≡ a.nodes.items
    → Adds a b kind to (ByWays dir ground.parties.tokens.all.items ground.at.items kind number)
    → Adds b c kind to (ByHeld dir ground.parties.tokens.all.items ground.at.items kind number)
    → Adds c d kind to (ByPlace dir a.nodes.items kind number) → Grows dir a d
grows_by dir ground a b c d kind number to same one two three =
    grows dir a d kind to (IsPart dir a.nodes.items ground.parties.tokens.all.items ground.at.items kind number)
    (all_parts dir a.nodes.items ground a b c d kind number to one two three) same

-- ---- what is drawn

module _ (dir : Directory) (ground : Ground) (old new : Graph) (kind : Kind) (number to : ℕ)
    (is : IsDrawing dir ground old) (over : IsOver old.nodes.items new) (live : is_live dir.objects number ≡ true)
    (of : is_of dir (row kind).of number ≡ true) (there : slice_get old.nodes.items to ≡ Some (Object number))
    (adds : Adds old new kind to
    (IsPart dir old.nodes.items ground.parties.tokens.all.items ground.at.items kind number)) where
  same : new.nodes.items ≡ old.nodes.items
  same = over.nodes

  -- the node of a part
  node_of : (x : ℕ) → IsPart dir old.nodes.items ground.parties.tokens.all.items ground.at.items kind number x
      → (node : Node) × (slice_get old.nodes.items x ≡ Some node)
  node_of x (inl ways) =
      let own = is.ground.tokens.sound ways.thing x
      (record { place = ways.place; is_token = ways.is_thing; is_at = ways.is_at }) in
      (own.0, own.1)
  node_of x (inr (inl held)) =
      let own = is.ground.tokens.sound held.thing x
      (record { place = held.place; is_token = held.is_thing; is_at = held.is_at }) in
      (own.0, own.1)
  node_of x (inr (inr place)) = (place.node, place.is_node)

  sound : (x place y : ℕ) → IsPassIn new x place y → IsArcFrom dir new.nodes.items new.kinds.items x place y
  sound x place y pass = elim (adds.only x place y pass) [
    | inl before ↦
        let arc = is.sound x place y before in
        record {
          node = arc.node;
          is_node = at_same old.nodes.items new.nodes.items x arc.node same arc.is_node;
          number = arc.number;
          is_object = at_same old.nodes.items new.nodes.items y (Object arc.number) same arc.is_object;
          kind = arc.kind;
          is_kind = adds.kinds place arc.kind arc.is_kind;
          is_edge = arc.is_edge;
        }
    | inr drawn ↦
        let node = node_of x drawn.2 in
        record {
          node = node.0;
          is_node = at_same old.nodes.items new.nodes.items x node.0 same node.1;
          number = number;
          is_object = at_same old.nodes.items new.nodes.items y (Object number) same
              (ap (slice_get old.nodes.items) drawn.1 ∙ there);
          kind = kind;
          is_kind = drawn.0;
          is_edge = edge_of dir old.nodes.items ground kind node.0 number x is.ground node.1 live of drawn.2;
        }
  ]

  drawing : IsDrawing dir ground new
  drawing = record {
    steady = over.steady;
    ground = subst (λ (l : List Node). IsGround dir l ground) (sym same) is.ground;
    sound = sound;
  }

  drawn : IsDrawn dir new kind number
  drawn node edge =
      let at = is.ground.nodes.each node edge.is_node in
      let led = adds.all at.0 (part_of dir old.nodes.items ground kind node number at.0 is.ground at.1 edge) in
      record {
        from = at.0;
        is_from = at_same old.nodes.items new.nodes.items at.0 node same at.1;
        to = to;
        is_to = at_same old.nodes.items new.nodes.items to (Object number) same there;
        place = led.place;
        is_kind = led.is_kind;
        pass = led.pass;
      }

pub is_drawing : (dir : Directory) (ground : Ground) (old new : Graph) (kind : Kind) (number to : ℕ)
    → IsDrawing dir ground old → IsOver old.nodes.items new → is_live dir.objects number ≡ true
    → is_of dir (row kind).of number ≡ true → slice_get old.nodes.items to ≡ Some (Object number)
    → Adds old new kind to (IsPart dir old.nodes.items ground.parties.tokens.all.items ground.at.items kind number)
    → IsDrawing dir ground new
is_drawing = drawing

pub all_drawn : (dir : Directory) (ground : Ground) (old new : Graph) (kind : Kind) (number to : ℕ)
    → IsDrawing dir ground old → IsOver old.nodes.items new → is_live dir.objects number ≡ true
    → is_of dir (row kind).of number ≡ true → slice_get old.nodes.items to ≡ Some (Object number)
    → Adds old new kind to (IsPart dir old.nodes.items ground.parties.tokens.all.items ground.at.items kind number)
    → IsDrawn dir new kind number
all_drawn = drawn

-- no edge of a kind leads to an object of another sort
pub none_drawn : (dir : Directory) (graph : Graph) (kind : Kind) (number : ℕ) → is_of dir (row kind).of number ≡ false
    → IsDrawn dir graph kind number
unfolding leads
none_drawn dir graph kind number other node edge =
    absurd (both_ways (is_of dir (row kind).of number) other (and_parts (is_of dir (row kind).of number) _ edge.leads).0)
