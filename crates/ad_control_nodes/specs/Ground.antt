-- The nodes of a directory, and which node each token is of.
use Rattle.std.specs.Prelude.{◌≡◌, ℕ, true, Some, List, ◌++◌, length, map, nat_eq, slice_get}
use Rattle.indexmap.specs.IndexMap.{get}
use Rattle.ad_ids.specs.SidValue.{SidValue, contains_sid}
use Rattle.ad_ids.specs.declared.token.Token.{Token}
use Rattle.ad_dir_model.specs.Objects.{is_live, numbers}
use Rattle.ad_dir_model.specs.Directory.{Directory}
use Rattle.ad_principals.specs.Tokens.{SidsRise}
use Rattle.ad_identities.specs.Identities.{is_without_principal}
use Rattle.ad_rights_rows.specs.Rows.{own_at}
use Rattle.ad_rights_rows.specs.Kept.{AreKept}
use Rattle.ad_control_graph.specs.declared.node.Node.{Node}
use Rattle.ad_control_graph.specs.declared.node.Node.TheVariants.{Object, Identifier}
use Rattle.ad_control.specs.Edges.{is_node, IsTokenIf}
use Rattle.ad_control_nodes.specs.declared.ground.Ground.{Ground}

-- all nodes of the directory, each once
pub record AreNodes (dir : Directory) (nodes : List Node) : Type 0 where
  pub once : (first second : ℕ) (node : Node) → slice_get nodes first ≡ Some node → slice_get nodes second ≡ Some node
      → first ≡ second
  pub are : (place : ℕ) (node : Node) → slice_get nodes place ≡ Some node → is_node dir node ≡ true
  pub each : (node : Node) → is_node dir node ≡ true → (place : ℕ) × (slice_get nodes place ≡ Some node)

-- They stand in order: the live objects by rising number, and then the identifiers that count without a principal in
-- rising order of their bytes.
pub record AreInOrder (dir : Directory) (nodes : List Node) : Type 0 where
  pub others : List SidValue
  pub rise : SidsRise others
  pub each : (sid : SidValue) → contains_sid others sid ≡ is_without_principal dir sid
  pub are : nodes ≡ map (λ number. Object number) (numbers dir.objects) ++ map (λ sid. Identifier sid) others

-- the token is one of these, and at its place stands the node
pub record IsTokenOf (tokens : List Token) (at : List ℕ) (token : Token) (x : ℕ) : Type 0 where
  pub place : ℕ
  pub is_token : slice_get tokens place ≡ Some token
  pub is_at : slice_get at place ≡ Some x

-- Of each token the node whose token it is; all nodes that have one are there.
pub record AreTokensOf (dir : Directory) (nodes : List Node) (tokens : List Token) (at : List ℕ) : Type 0 where
  pub long : length at ≡ length tokens
  pub sound : (token : Token) (x : ℕ) → IsTokenOf tokens at token x
      → (node : Node) × (slice_get nodes x ≡ Some node) × IsTokenIf dir node (Some token)
  pub each : (x : ℕ) (node : Node) (token : Token) → slice_get nodes x ≡ Some node → IsTokenIf dir node (Some token)
      → IsTokenOf tokens at token x

-- what is kept of a directory whose nodes these are
pub record IsGround (dir : Directory) (all : List Node) (ground : Ground) : Type 0 where
  pub nodes : AreNodes dir all
  pub parties : AreKept dir ground.parties
  pub tokens : AreTokensOf dir all ground.parties.tokens.all.items ground.at.items
  -- the place of each live object among the nodes
  pub objects : (number place : ℕ) → get nat_eq ground.objects number ≡ Some place
      → slice_get all place ≡ Some (Object number)
  pub each : (number : ℕ) → is_live dir.objects number ≡ true
      → (place : ℕ) × (get nat_eq ground.objects number ≡ Some place)
  -- the place of its token, where it has one
  pub own : (number : ℕ) → get nat_eq ground.own number ≡ own_at ground.parties.members.items number
