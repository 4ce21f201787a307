-- First steps, and last ones, that are edges.
use Rattle.std.specs.Prelude.{◌≡◌, ℕ, Bool, true, false, Option, Some, List}
use Rattle.ad_dir_model.specs.Directory.{Directory}
use Rattle.ad_chains.specs.declared.ways.Pass.{Pass}
use Rattle.ad_chains.specs.declared.ways.Way.{Way}
use Rattle.ad_chains.specs.Ways.{way_at}
use Rattle.ad_control_graph.specs.declared.kind.Kind.{Kind}
use Rattle.ad_control_graph.specs.declared.node.Node.{Node}
use Rattle.ad_control.specs.Chains.{IsArcFrom}

-- an arc from the node at a place, or backwards one to it
abbrev pub IsStepOf : Bool → Directory → List Node → List Kind → ℕ → Pass → Type 0
IsStepOf true dir nodes kinds x pass = IsArcFrom dir nodes kinds pass.next pass.arc x
IsStepOf false dir nodes kinds x pass = IsArcFrom dir nodes kinds x pass.arc pass.next

-- each step that is told is one
abbrev pub AreSteps : Bool → Directory → List Node → List Kind → List (Option Way) → Type 0
AreSteps back dir nodes kinds ways = (x : ℕ) (way : Way) (pass : Pass) → way_at ways x ≡ Some way
    → way.first ≡ Some pass → IsStepOf back dir nodes kinds x pass
