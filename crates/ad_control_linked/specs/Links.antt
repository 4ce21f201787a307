-- Nodes of objects, and the sets of policies that stand already.
use Rattle.std.specs.Prelude.{◌≡◌, ◌≢◌, ℕ, Some, List, nat_eq, slice_get}
use Rattle.indexmap.specs.IndexMap.{get}
use Rattle.ad_dir_model.specs.Objects.{parent_at}
use Rattle.ad_dir_model.specs.Tree.{root}
use Rattle.ad_dir_model.specs.Directory.{Directory}
use Rattle.ad_policies.specs.Policies.{policies_of}
use Rattle.ad_control_graph.specs.declared.node.Node.{Node}
use Rattle.ad_control_graph.specs.declared.node.Node.TheVariants.{Object}
use Rattle.ad_control_graph.specs.declared.graph.Graph.{Graph}
use Rattle.ad_control_graph.specs.Drawing.{IsSetOf}
use Rattle.ad_control_linked.specs.declared.links.Links.{Links}

-- at the place stands the node of one of these objects
pub record IsOneOf (nodes : List Node) (numbers : List ℕ) (x : ℕ) : Type 0 where
  pub place : ℕ
  pub number : ℕ
  pub is_number : slice_get numbers place ≡ Some number
  pub is_node : slice_get nodes x ≡ Some (Object number)

-- what is known of a parent is so of each child
abbrev pub AreLinks : Directory → List Node → Graph → Links → Type 0
AreLinks dir nodes graph links = (parent set number : ℕ) → get nat_eq links.sets parent ≡ Some set → number ≢ root
    → parent_at dir.objects number ≡ parent → IsSetOf graph set (IsOneOf nodes (policies_of dir number))
