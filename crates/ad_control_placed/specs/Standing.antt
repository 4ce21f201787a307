-- Only for private contracts, invariants and proofs: which nodes stand there, by some of the places of a row; and which
-- are of members.
use Rattle.std.specs.Prelude.{◌≡◌, ◌⊎◌, ℕ, Bool, true, false, if◌then◌else◌, Option, Some, None, List, slice_get}
use Rattle.std.specs.List.{list_any}
use Rattle.std.specs.Option.{option_map_or}
use Rattle.ad_ids.specs.SidValue.{SidValue, contains_sid}
use Rattle.ad_ids.specs.declared.token.Token.{Token}
use Rattle.ad_dir_model.specs.Directory.{Directory}
use Rattle.ad_control_graph.specs.declared.node.Node.{Node}
use Rattle.ad_control_graph.specs.Kinds.{From}
use Rattle.ad_control.specs.Edges.{IsTokenIf, stands}

-- a node stands there, by a token of its own where it has one
pub record IsStanding (dir : Directory) (nodes : List Node) (from : List From) (number x : ℕ) : Type 0 where
  pub node : Node
  pub is_node : slice_get nodes x ≡ Some node
  pub by_token : ((token : Token) × IsTokenIf dir node (Some token)
      × (list_any (stands dir (Some token) node number) from ≡ true))
      ⊎ (list_any (stands dir None node number) from ≡ true)

-- the token has the identifier among its groups
abbrev pub has_group : SidValue → Token → Bool
has_group sid token = contains_sid token.groups sid

-- the node of the token at a place, where it has the identifier among its groups
abbrev pub member_at : List Token → List ℕ → SidValue → ℕ → Option ℕ
member_at tokens at sid place =
    if option_map_or (has_group sid) (slice_get tokens place) false then slice_get at place else None
