-- Sets of tokens as sets of the nodes whose tokens they are.
use Rattle.std.specs.Prelude.{◌≡◌, ℕ, ◌<◌, Bool, true, Option, Some, List, length, nat_eq, slice_get}
use Rattle.indexmap.specs.IndexMap.{IndexMap, get}
use Rattle.ad_sets.specs.declared.told.Sign.{Sign}
use Rattle.ad_sets.specs.Told.{stands_in, signed}
use Rattle.ad_control_graph.specs.declared.graph.Graph.{Graph}
use Rattle.ad_control_graph.specs.Drawing.{IsSteady, IsSetOf, IsBy, AreBelow}

-- arcs can be drawn from these nodes to this one
pub record CanDraw (graph : Graph) (at : List ℕ) (to : ℕ) : Type 0 where
  pub steady : IsSteady graph
  pub from : AreBelow (length graph.nodes.items) at
  pub end : to < length graph.nodes.items

-- the node is that of one who is in the set
abbrev pub IsNodeOf : List Bool → List ℕ → ℕ → Type 0
IsNodeOf set at x = IsBy set at (λ (there : Bool). there) x

-- the node is that of one who is in what the set tells with a sign
pub record IsTold (set : List Bool) (sign : Sign) (own : Option ℕ) (at : List ℕ) (x : ℕ) : Type 0 where
  pub member : ℕ
  pub is_told : signed sign own member (stands_in set member) ≡ true
  pub is_at : slice_get at member ≡ Some x

-- the set of the graph has exactly the nodes of those who are in the set at a place
pub record IsDrawn (sets : List (List Bool)) (at : List ℕ) (graph : Graph) (place set : ℕ) : Type 0 where
  pub members : List Bool
  pub is_members : slice_get sets place ≡ Some members
  pub is_set : IsSetOf graph set (IsNodeOf members at)

-- what is known of places is so
abbrev pub AreDrawn : {S : Type 0} → List (List Bool) → List ℕ → Graph → IndexMap ℕ ℕ S → Type 0
AreDrawn sets at graph drawn = (place set : ℕ) → get nat_eq drawn place ≡ Some set → IsDrawn sets at graph place set
