-- What is kept while objects are asked for edges by where objects stand.
use Rattle.std.specs.Prelude.{◌≡◌, ℕ, List}
use Rattle.ad_dir_model.specs.Names.{admin_sd_holder}
use Rattle.ad_dir_model.specs.Protection.{has, protected}
use Rattle.ad_dir_model.specs.Directory.{Directory}
use Rattle.ad_control_graph.specs.declared.node.Node.{Node}
use Rattle.ad_control_graph.specs.declared.graph.Graph.{Graph}
use Rattle.ad_control_linked.specs.Links.{AreLinks}
use Rattle.ad_control_placed.specs.declared.places.Places.{Places}

pub record ArePlaces (dir : Directory) (nodes : List Node) (graph : Graph) (places : Places) : Type 0 where
  pub holder : places.holder ≡ admin_sd_holder dir
  pub protected : (number : ℕ) → has places.protected.keys number ≡ has (protected dir) number
  pub links : AreLinks dir nodes graph places.links
