-- What is looked up once for all lines.
use Rattle.std.specs.Prelude.{◌≡◌, ℕ, ◌<◌, true, Option, Some, None, List, length, slice_get, slice_index, slice_index_or}
use Rattle.ad_dir_model.specs.Directory.{Directory}
use Rattle.ad_chains.specs.declared.ways.Way.{Way}
use Rattle.ad_control_graph.specs.declared.node.Node.{Node}
use Rattle.ad_control_graph.specs.declared.node.Node.TheVariants.{Object}
use Rattle.ad_control.specs.Edges.{is_node}
use Rattle.ad_control.specs.Lines.{number_of}
use Rattle.ad_control_lines.specs.declared.steps.Tables.{Tables}

-- ---- nodes

-- each is one of the directory
abbrev pub AreLiving : Directory → List Node → Type 0
AreLiving dir nodes = (place : ℕ) (node : Node) → slice_get nodes place ≡ Some node → is_node dir node ≡ true

-- an object stands at the place
abbrev pub IsAtObject : List Node → ℕ → Type 0
IsAtObject nodes x = (number : ℕ) × (slice_get nodes x ≡ Some (Object number))

-- ---- numbers

-- of so many nodes the number of each
pub record AreNumbers (ways : List (Option Way)) (count : ℕ) (numbers : List ℕ) : Type 0 where
  pub long : length numbers ≡ count
  pub each : (x : ℕ) → x < count → slice_index numbers x ≡ number_of ways x

-- ---- tokens

-- the place of the token of a node
abbrev pub place_at : List (Option ℕ) → ℕ → Option ℕ
place_at owners x = slice_index_or owners x None

-- Of the first n tokens, each node of one has a place, which is that of a token of its own.
pub record AreOwners (at : List ℕ) (n : ℕ) (owners : List (Option ℕ)) : Type 0 where
  pub sound : (x place : ℕ) → place_at owners x ≡ Some place → slice_get at place ≡ Some x
  pub each : (x place : ℕ) → place < n → slice_get at place ≡ Some x → place_at owners x ≡ None → ⊥

pub record AreTables (ways : List (Option Way)) (nodes : List Node) (at : List ℕ) (tables : Tables) : Type 0 where
  pub numbers : AreNumbers ways (length nodes) tables.numbers.items
  pub owners : AreOwners at (length at) tables.owners.items
