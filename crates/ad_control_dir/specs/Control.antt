-- Who can come to control a node, and what a node can come to control: what `adsd control STORE NAME` and `adsd reach
-- STORE NAME` tell.
use Rattle.std.specs.Prelude.{◌≡◌, ℕ, Bool, true, false, if◌then◌else◌, Option, Some, List, slice_get, Result, Ok, Err}
use Rattle.std.specs.Option.{option_map_or}
use Rattle.ad_ids.specs.SidValue.{SidValue}
use Rattle.ad_ids.specs.SidFront.{sid_of_text}
use Rattle.ad_dir_model.specs.Identity.{with_sid}
use Rattle.ad_dir_model.specs.Directory.{Directory}
use Rattle.ad_principals.specs.Named.{named, or_no_object}
use Rattle.ad_principals.specs.declared.fault.NameFault.{NameFault}
use Rattle.ad_identities.specs.Identities.{is_without_principal}
use Rattle.ad_who.specs.Faults.{IsNameFault}
use Rattle.ad_who.specs.Answers.{IsTold}
use Rattle.ad_chains.specs.declared.ways.Way.{Way}
use Rattle.ad_control_graph.specs.declared.kind.Kind.{Kind}
use Rattle.ad_control_graph.specs.declared.node.Node.{Node}
use Rattle.ad_control_graph.specs.declared.node.Node.TheVariants.{Object, Identifier}
use Rattle.ad_control.specs.Chains.{AreControlling, AreReached}
use Rattle.ad_control.specs.Lines.{AreLines}
use Rattle.ad_control_nodes.specs.Ground.{AreInOrder}

-- ---- the node of a name

abbrev pub object_node : Result ℕ NameFault → Result Node NameFault
object_node (Ok number) = Ok (Object number)
object_node (Err fault) = Err fault

-- that of an identifier: itself where it counts without a principal, and else its object
abbrev pub sid_node : Directory → SidValue → Result Node NameFault
sid_node dir sid =
    if is_without_principal dir sid then Ok (Identifier sid) else object_node (or_no_object (with_sid dir sid))

-- A text that is an identifier's says the node of that one, and any other the object that it names.
unfoldable pub node_named : Directory → List ℕ → Result Node NameFault
node_named dir text = option_map_or (sid_node dir) (sid_of_text text) (object_node (named dir text))

-- ---- what is told of it

-- of each node the shortest chain to the one at a place, or, backwards, from it
abbrev pub AreChains : Bool → Directory → List Node → List Kind → ℕ → List (Option Way) → Type 0
AreChains false dir nodes kinds place ways = AreControlling dir nodes kinds place ways
AreChains true dir nodes kinds place ways = AreReached dir nodes kinds place ways

-- the lines of the nodes that have a chain to a node, or, backwards, from it
pub record IsChainsText (back : Bool) (dir : Directory) (node : Node) (text : List ℕ) : Type 0 where
  pub nodes : List Node
  pub in_order : AreInOrder dir nodes
  pub place : ℕ
  pub stands : slice_get nodes place ≡ Some node
  pub kinds : List Kind
  pub ways : List (Option Way)
  pub are_ways : AreChains back dir nodes kinds place ways
  pub lines : AreLines back dir nodes kinds ways text

abbrev pub IsAnswer : Bool → Directory → List ℕ → List ℕ → Type 0
IsAnswer back dir name text = (node : Node) × (node_named dir name ≡ Ok node) × IsChainsText back dir node text

-- an answer, or the line that says what is wrong with the name
abbrev pub ChainsTold : Bool → Directory → List ℕ → Bool → List ℕ → Type 0
ChainsTold back dir name = IsTold dir (IsAnswer back dir name) (IsNameFault (node_named dir name))

abbrev pub ControlTold : Directory → List ℕ → Bool → List ℕ → Type 0
ControlTold = ChainsTold false

abbrev pub ReachTold : Directory → List ℕ → Bool → List ℕ → Type 0
ReachTold = ChainsTold true
