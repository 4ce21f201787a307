-- The parts of an edge: by questions, by a descriptor that is a value, and by where a node stands.
use Rattle.std.specs.Prelude.{◌≡◌, ◌⊎◌, ℕ, true, Some, None, List, slice_get}
use Rattle.std.specs.List.{list_any}
use Rattle.ad_ids.specs.declared.token.Token.{Token}
use Rattle.ad_dir_model.specs.Directory.{Directory}
use Rattle.ad_control_graph.specs.declared.kind.Kind.{Kind}
use Rattle.ad_control_graph.specs.declared.node.Node.{Node}
use Rattle.ad_control_graph.specs.Kinds.{row}
use Rattle.ad_control_graph.specs.Drawing.{IsBy}
use Rattle.ad_control.specs.Edges.{IsTokenIf, goes, holds, stands}

-- the nodes of the tokens to which a way of the kind goes
abbrev pub ByWays : Directory → List Token → List ℕ → Kind → ℕ → ℕ → Type 0
ByWays dir tokens at kind number x = IsBy tokens at (λ token. list_any (goes dir token number) (row kind).ways) x

-- those of the tokens to which a descriptor grants it that is a value of the object
abbrev pub ByHeld : Directory → List Token → List ℕ → Kind → ℕ → ℕ → Type 0
ByHeld dir tokens at kind number x = IsBy tokens at (λ token. list_any (holds dir token number) (row kind).held) x

-- A node that stands there, by a token of its own where it has one.
pub record ByPlace (dir : Directory) (nodes : List Node) (kind : Kind) (number x : ℕ) : Type 0 where
  pub node : Node
  pub is_node : slice_get nodes x ≡ Some node
  pub by_token : ((token : Token) × IsTokenIf dir node (Some token)
      × (list_any (stands dir (Some token) node number) (row kind).from ≡ true))
      ⊎ (list_any (stands dir None node number) (row kind).from ≡ true)

-- one of the three
abbrev pub IsPart : Directory → List Node → List Token → List ℕ → Kind → ℕ → ℕ → Type 0
IsPart dir nodes tokens at kind number x =
    ByWays dir tokens at kind number x ⊎ (ByHeld dir tokens at kind number x ⊎ ByPlace dir nodes kind number x)
