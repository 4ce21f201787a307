-- The lines that tell chains: a line for each node that is told, and then one for each first step.
use Rattle.std.specs.Prelude.{◌≡◌, ℕ, zero, suc, ◌+◌, Bool, true, false, is_some, if◌then◌else◌, Option, Some, None}
use Rattle.std.specs.Prelude.{List, [], ◌∷◌, ◌++◌, codes, decimal, find, length, slice_get, unwrap_or}
use Rattle.std.specs.Option.{option_map, option_map_or, option_and_then}
use Rattle.ad_bytes.specs.Puts.{spaced, ended}
use Rattle.ad_ids.specs.SidText.{sid_text}
use Rattle.ad_ids.specs.declared.token.Token.{Token}
use Rattle.ad_dir_model.specs.Identity.{self_sid}
use Rattle.ad_dir_model.specs.Names.{name_text}
use Rattle.ad_dir_model.specs.Directory.{Directory}
use Rattle.ad_questions.specs.Question.{question_of}
use Rattle.ad_questions.specs.Requirements.{requirements}
use Rattle.ad_who.specs.Reason.{last_of, reason_of}
use Rattle.ad_who.specs.Lines.{reason_text}
use Rattle.ad_chains.specs.declared.ways.Pass.{Pass}
use Rattle.ad_chains.specs.declared.ways.Way.{Way}
use Rattle.ad_chains.specs.Ways.{way_at}
use Rattle.ad_control_graph.specs.declared.kind.Kind.{Kind}
use Rattle.ad_control_graph.specs.declared.node.Node.{Node}
use Rattle.ad_control_graph.specs.declared.node.Node.TheVariants.{Object, Identifier}
use Rattle.ad_control_graph.specs.Kinds.{Way as KindWay, row}
use Rattle.ad_control.specs.Edges.{IsTokenIf, goes}

-- ---- nodes

-- a word for what isn't there
abbrev pub nothing : List ℕ
nothing = codes "-"

abbrev pub sid_word : Directory → Node → List ℕ
sid_word dir (Object number) = option_map_or sid_text (self_sid dir number) nothing
sid_word dir (Identifier sid) = sid_text sid

abbrev pub name_word : Directory → Node → List ℕ
name_word dir (Object number) = name_text dir number
name_word dir (Identifier sid) = nothing

-- how many of the first n nodes are told
unfoldable pub told_below : List (Option Way) → ℕ → ℕ
told_below ways zero = 0
told_below ways (suc n) = told_below ways n + (if is_some (way_at ways n) then 1 else 0)

-- a node's number: those that are told are numbered from 1, in their order
abbrev pub number_of : List (Option Way) → ℕ → ℕ
number_of ways x = told_below ways x + 1

unfoldable pub object_line : Directory → List (Option Way) → ℕ → Node → List ℕ
object_line dir ways x node =
    codes "object " ++ (spaced (decimal (number_of ways x)) ++ (spaced (sid_word dir node)
    ++ ended (name_word dir node)))

-- ---- what decides

-- the last text of a list
unfoldable pub last_in : List (List ℕ) → Option (List ℕ)
last_in [] = None
last_in (text ∷ []) = Some text
last_in (text ∷ next ∷ texts) = last_in (next ∷ texts)

-- why the token is told yes to a question, as `who` tells it
unfoldable pub why : Directory → Token → ℕ → List ℕ → List ℕ
why dir token number text =
    unwrap_or (option_map (λ question. reason_text (reason_of dir token number
    (last_of (requirements dir question number)))) (question_of dir.schema text)) nothing

-- by the last question of the first way that goes; a hyphen where the edge is by no question
unfoldable pub what : Directory → Option Token → Kind → ℕ → List ℕ
what dir None kind number = nothing
what dir (Some token) kind number =
    unwrap_or (option_and_then (λ (way : KindWay). option_map (why dir token number) (last_in way.asks))
    (find (goes dir token number) (row kind).ways)) nothing

-- ---- steps

-- the length, the node, the kind, what decides, and the object to which the step leads
unfoldable pub step_line : Directory → List (Option Way) → ℕ → ℕ → ℕ → Option Token → Kind → ℕ → List ℕ
step_line dir ways length from to token kind number =
    codes "step " ++ (spaced (decimal length) ++ (spaced (decimal (number_of ways from))
    ++ (spaced (row kind).name ++ (spaced (what dir token kind number)
    ++ ended (decimal (number_of ways to))))))

-- The line of an arc between the nodes at two places, by a token of the first.
pub record IsStepLine (dir : Directory) (nodes : List Node) (kinds : List Kind) (ways : List (Option Way))
    (length from place to : ℕ) (text : List ℕ) : Type 0 where
  pub node : Node
  pub is_node : slice_get nodes from ≡ Some node
  pub number : ℕ
  pub is_object : slice_get nodes to ≡ Some (Object number)
  pub kind : Kind
  pub is_kind : slice_get kinds place ≡ Some kind
  pub token : Option Token
  pub is_token : IsTokenIf dir node token
  pub line : text ≡ step_line dir ways length from to token kind number

-- ---- the texts

-- the line of the node at a place, where it is told
abbrev pub IsObjectLine : Directory → List Node → List (Option Way) → ℕ → Option Way → List ℕ → Type 0
IsObjectLine dir nodes ways x None text = text ≡ []
IsObjectLine dir nodes ways x (Some way) text =
    (node : Node) × (slice_get nodes x ≡ Some node) × (text ≡ object_line dir ways x node)

-- the line of its first step, or of the last step to it
abbrev pub IsFirstLine : Bool → Directory → List Node → List Kind → List (Option Way) → ℕ → ℕ → Option Pass → List ℕ
    → Type 0
IsFirstLine back dir nodes kinds ways length x None text = text ≡ []
IsFirstLine true dir nodes kinds ways length x (Some pass) text =
    IsStepLine dir nodes kinds ways length pass.next pass.arc x text
IsFirstLine false dir nodes kinds ways length x (Some pass) text =
    IsStepLine dir nodes kinds ways length x pass.arc pass.next text

abbrev pub IsWayLine : Bool → Directory → List Node → List Kind → List (Option Way) → ℕ → Option Way → List ℕ → Type 0
IsWayLine back dir nodes kinds ways x None text = text ≡ []
IsWayLine back dir nodes kinds ways x (Some way) text =
    IsFirstLine back dir nodes kinds ways way.length x way.first text

-- texts of the nodes from this place on, so many of them, one after the other
abbrev pub AreTexts : (ℕ → List ℕ → Type 0) → ℕ → ℕ → List ℕ → Type 0
AreTexts IsText x zero text = text ≡ []
AreTexts IsText x (suc left) text =
    (line rest : List ℕ) × IsText x line × AreTexts IsText (x + 1) left rest × (text ≡ line ++ rest)

-- all nodes that are told, and then all steps; backwards for what a node comes to control
pub record AreLines (back : Bool) (dir : Directory) (nodes : List Node) (kinds : List Kind) (ways : List (Option Way))
    (text : List ℕ) : Type 0 where
  pub objects : List ℕ
  pub steps : List ℕ
  pub are_objects : AreTexts (λ x line. IsObjectLine dir nodes ways x (way_at ways x) line) 0 (length nodes) objects
  pub are_steps : AreTexts (λ x line. IsWayLine back dir nodes kinds ways x (way_at ways x) line) 0 (length nodes) steps
  pub are : text ≡ objects ++ steps
