-- What is kept stays, whatever is drawn.
use Rattle.std.proofs.Common.{List}
use Rattle.ad_dir_model.specs.Directory.{Directory}
use Rattle.ad_control_graph.specs.declared.graph.Graph.{Graph}
use Rattle.ad_control_graph.specs.declared.node.Node.{Node}
use Rattle.ad_control_graph.specs.Drawing.{KeepsSets}
use Rattle.ad_control_linked.proofs.Linking.{links_stay}
use Rattle.ad_control_placed.specs.declared.places.Places.{Places}
use Rattle.ad_control_placed.specs.Places.{ArePlaces}

pub places_stay : (dir : Directory) (nodes : List Node) (old new : Graph) (places : Places) → KeepsSets old new
    → ArePlaces dir nodes old places → ArePlaces dir nodes new places
places_stay dir nodes old new places keeps are = record {
  holder = are.holder;
  protected = are.protected;
  links = links_stay dir nodes old new places.links keeps are.links;
}
