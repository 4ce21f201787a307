-- What is told of chains has first steps, or last ones, that are edges.
use Rattle.std.proofs.Common.{◌≡◌, ◌∙◌, ℕ, true, false, Option, Some, None, List, [], ◌∷◌, sym, ap, subst}
use Rattle.std.proofs.lemmas.Option.{same_Some}
use Rattle.ad_dir_model.specs.Directory.{Directory}
use Rattle.ad_chains.specs.declared.ways.Pass.{Pass}
use Rattle.ad_chains.specs.declared.ways.Way.{Way}
use Rattle.ad_chains.specs.Ways.{way_at}
use Rattle.ad_control_graph.specs.declared.kind.Kind.{Kind}
use Rattle.ad_control_graph.specs.declared.node.Node.{Node}
use Rattle.ad_control.specs.Chains.{arcs_length, LeadsTo, ComesFrom, AreControlling, AreReached}
use Rattle.ad_control_lines.specs.Steps.{IsStepOf, AreSteps}

-- the step of a way, by what is told of it
first_is : (ways : List (Option Way)) (x : ℕ) (way told : Way) (pass : Pass) → way_at ways x ≡ Some way
    → way.first ≡ Some pass → way_at ways x ≡ Some told → told.first ≡ Some pass
first_is ways x way told pass is first at =
    ap (λ (w : Way). w.first) (same_Some told way (sym at ∙ is)) ∙ first

to : (dir : Directory) (nodes : List Node) (kinds : List Kind) (end : ℕ) (ways : List (Option Way)) (x : ℕ)
    (way : Way) (pass : Pass) (passes : List Pass) → LeadsTo dir nodes kinds end ways x passes
    → way_at ways x ≡ Some way → way.first ≡ Some pass → IsStepOf false dir nodes kinds x pass
to dir nodes kinds end ways x way pass [] leads is first =
    let no : None ≡ Some pass = first_is ways x way (record { length = 0; first = None }) pass is first leads.1 in
    absurd cc
to dir nodes kinds end ways x way pass (other ∷ passes) leads is first =
    let told : Way = record { length = arcs_length kinds (other ∷ passes); first = Some other } in
    let same : other ≡ pass = same_Some other pass (first_is ways x way told pass is first leads.1) in
    subst (λ (p : Pass). IsStepOf false dir nodes kinds x p) same leads.0

pub steps_to : (dir : Directory) (nodes : List Node) (kinds : List Kind) (end : ℕ) (ways : List (Option Way))
    → AreControlling dir nodes kinds end ways → AreSteps false dir nodes kinds ways
steps_to dir nodes kinds end ways are x way pass is first =
    let told = are.told x way is in to dir nodes kinds end ways x way pass told.0 told.1 is first

from : (dir : Directory) (nodes : List Node) (kinds : List Kind) (start : ℕ) (ways : List (Option Way)) (x : ℕ)
    (way : Way) (pass : Pass) (passes : List Pass) → ComesFrom dir nodes kinds start ways x passes
    → way_at ways x ≡ Some way → way.first ≡ Some pass → IsStepOf true dir nodes kinds x pass
from dir nodes kinds start ways x way pass [] leads is first =
    let no : None ≡ Some pass = first_is ways x way (record { length = 0; first = None }) pass is first leads.1 in
    absurd cc
from dir nodes kinds start ways x way pass (other ∷ passes) leads is first =
    let told : Way = record { length = arcs_length kinds (other ∷ passes); first = Some other } in
    let same : other ≡ pass = same_Some other pass (first_is ways x way told pass is first leads.1) in
    subst (λ (p : Pass). IsStepOf true dir nodes kinds x p) same leads.0

pub steps_from : (dir : Directory) (nodes : List Node) (kinds : List Kind) (start : ℕ) (ways : List (Option Way))
    → AreReached dir nodes kinds start ways → AreSteps true dir nodes kinds ways
steps_from dir nodes kinds start ways are x way pass is first =
    let told = are.told x way is in from dir nodes kinds start ways x way pass told.0 told.1 is first
