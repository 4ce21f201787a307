-- The line of a node, and that of a step.
use Rattle.std.proofs.Common.{◌≡◌, ◌∙◌, ℕ, ◌<◌, Option, Some, List, ◌++◌, codes, decimal, length, get_or, refl, sym, ap}
use Rattle.std.proofs.Common.{subst, arith}
use Rattle.std.specs.Prelude.{slice_get}
use Rattle.std.proofs.lemmas.Option.{slice_get-get_or, slice_get_within}
use Rattle.std.proofs.lemmas.List.{get_or_default}
use Rattle.ad_bytes.specs.Puts.{spaced, ended}
use Rattle.ad_ids.specs.declared.token.Token.{Token}
use Rattle.ad_dir_model.specs.Directory.{Directory}
use Rattle.ad_chains.specs.declared.ways.Way.{Way}
use Rattle.ad_chains.specs.Ways.{way_at}
use Rattle.ad_control_graph.specs.declared.kind.Kind.{Kind}
use Rattle.ad_control_graph.specs.declared.node.Node.{Node}
use Rattle.ad_control_graph.specs.declared.node.Node.TheVariants.{Object}
use Rattle.ad_control_graph.specs.Kinds.{row}
use Rattle.ad_control.specs.Edges.{IsTokenIf}
use Rattle.ad_control.specs.Lines.{number_of, sid_word, name_word, object_line, IsObjectLine, what, step_line, IsStepLine}
use Rattle.ad_control_lines.specs.Tables.{AreNumbers}
use Rattle.ad_control_lines.proofs.Putting.{IsPut}

pub object_told : (dir : Directory) (nodes : List Node) (ways : List (Option Way)) (x number : ℕ) (node : Node)
    (way : Way) (into next : List ℕ) → slice_get nodes x ≡ Some node → Some way ≡ way_at ways x
    → number ≡ number_of ways x
    → next ≡ into ++ (codes "object " ++ (spaced (decimal number) ++ (spaced (sid_word dir node)
    ++ ended (name_word dir node))))
    → IsPut (λ y line. IsObjectLine dir nodes ways y (way_at ways y) line) x into next
unfolding object_line
object_told dir nodes ways x number node way into next at told is put = (
  object_line dir ways x node,
  put ∙ ap (λ (n : ℕ). into ++ (codes "object " ++ (spaced (decimal n) ++ (spaced (sid_word dir node)
      ++ ended (name_word dir node))))) is,
  subst (λ (w : Option Way). IsObjectLine dir nodes ways x w (object_line dir ways x node)) told (node, at, refl),
)

-- a number as it is read
pub number_is : (ways : List (Option Way)) (count : ℕ) (numbers : List ℕ) (x found : ℕ)
    → AreNumbers ways count numbers → x < count → found ≡ get_or numbers x found → found ≡ number_of ways x
number_is ways count numbers x found are low is =
    let long = are.long in
    is ∙ get_or_default numbers x found 0 (omega (arith, low, long)) ∙ are.each x low

-- a kind as it is read
pub kind_is : (kinds : List Kind) (place : ℕ) (kind found : Kind) → slice_get kinds place ≡ Some kind
    → found ≡ get_or kinds place found → slice_get kinds place ≡ Some found
kind_is kinds place kind found at is =
    slice_get-get_or kinds place found (slice_get_within kinds place kind at) ∙ ap (λ (k : Kind). Some k) (sym is)

pub step_told : (dir : Directory) (nodes : List Node) (kinds : List Kind) (ways : List (Option Way))
    (length from place to first last number : ℕ) (node : Node) (kind : Kind) (token : Option Token)
    (into next : List ℕ) → slice_get nodes from ≡ Some node → slice_get nodes to ≡ Some (Object number)
    → slice_get kinds place ≡ Some kind → IsTokenIf dir node token → first ≡ number_of ways from
    → last ≡ number_of ways to
    → next ≡ into ++ (codes "step " ++ (spaced (decimal length) ++ (spaced (decimal first)
    ++ (spaced (row kind).name ++ (spaced (what dir token kind number) ++ ended (decimal last))))))
    → (line : List ℕ) × (next ≡ into ++ line) × IsStepLine dir nodes kinds ways length from place to line
unfolding step_line
step_told dir nodes kinds ways length from place to first last number node kind token into next at there is_kind
    is_token is_first is_last put =
    let text : ℕ → ℕ → List ℕ = λ a b. codes "step " ++ (spaced (decimal length) ++ (spaced (decimal a)
    ++ (spaced (row kind).name ++ (spaced (what dir token kind number) ++ ended (decimal b))))) in (
      text (number_of ways from) (number_of ways to),
      put ∙ ap (λ (a : ℕ). into ++ text a last) is_first
          ∙ ap (λ (b : ℕ). into ++ text (number_of ways from) b) is_last,
      record {
        node = node;
        is_node = at;
        number = number;
        is_object = there;
        kind = kind;
        is_kind = is_kind;
        token = token;
        is_token = is_token;
        line = refl;
      },
    )
