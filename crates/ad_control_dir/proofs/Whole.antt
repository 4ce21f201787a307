-- Where the edges of all kinds to all objects are drawn, the graph is that of the directory.
use Rattle.std.proofs.Common.{◌≡◌, ◌∙◌, ℕ, true, subst, arith}
use Rattle.std.specs.List.{All}
use Rattle.ad_dir_model.specs.Directory.{Directory}
use Rattle.ad_dir_model.specs.Objects.{numbers, is_live}
use Rattle.ad_principals.proofs.Identified.{has_numbers}
use Rattle.std.specs.Prelude.{nat_eq}
use Rattle.std.proofs.lemmas.Bool.{eqb-true}
use Rattle.ad_control_graph.specs.declared.kind.Kind.{Kind}
use Rattle.ad_control_graph.specs.declared.kind.Kind.TheVariants as kind
use Rattle.ad_control_graph.specs.declared.graph.Graph.{Graph}
use Rattle.ad_control_graph.specs.Kinds.{kinds}
use Rattle.ad_control.specs.Graph.{IsGraphOf}
use Rattle.ad_control_nodes.specs.declared.ground.Ground.{Ground}
use Rattle.ad_control_nodes.proofs.Lists.{all_at, passing}
use Rattle.ad_control_dir.specs.Drawn.{IsDrawing, IsDrawn}

-- what holds of all kinds holds of each
each_kind : (P : Kind → Type 0) → All P kinds → (k : Kind) → P k
each_kind P all kind.Descriptor = all 0 kind.Descriptor (omega arith)
each_kind P all kind.Reset = all 1 kind.Descriptor (omega arith)
each_kind P all kind.Join = all 2 kind.Descriptor (omega arith)
each_kind P all kind.Key = all 3 kind.Descriptor (omega arith)
each_kind P all kind.Act = all 4 kind.Descriptor (omega arith)
each_kind P all kind.Secret = all 5 kind.Descriptor (omega arith)
each_kind P all kind.Replicate = all 6 kind.Descriptor (omega arith)
each_kind P all kind.All = all 7 kind.Descriptor (omega arith)
each_kind P all kind.Child = all 8 kind.Descriptor (omega arith)
each_kind P all kind.Protect = all 9 kind.Descriptor (omega arith)
each_kind P all kind.Link = all 10 kind.Descriptor (omega arith)
each_kind P all kind.Member = all 11 kind.Descriptor (omega arith)

-- and of all live objects, of each
each_object : (P : ℕ → Type 0) (dir : Directory) (number : ℕ) → All P (numbers dir.objects)
    → is_live dir.objects number ≡ true → P number
each_object P dir number all live =
    let there = passing (λ other. nat_eq other number) (numbers dir.objects) (has_numbers dir.objects number ∙ live) in
    subst P (eqb-true there.thing number there.passes)
    (all_at P (numbers dir.objects) there.place there.thing all there.is_thing)

pub is_graph : (dir : Directory) (ground : Ground) (graph : Graph) → IsDrawing dir ground graph
    → All (λ k. All (IsDrawn dir graph k) (numbers dir.objects)) kinds → IsGraphOf dir graph
is_graph dir ground graph is all = record {
  once = is.ground.nodes.once;
  sound = is.sound;
  complete = λ k node number edge. each_object (IsDrawn dir graph k) dir number
      (each_kind (λ other. All (IsDrawn dir graph other) (numbers dir.objects)) all k) edge.live node edge;
  counts = is.steady.counts;
}
