-- What is kept while objects are asked; and the table's questions and attributes in a schema.
use Rattle.std.specs.Prelude.{◌≡◌, ℕ, Bool, true, false, is_some, ◌&&◌, Option, Some, None, List, [], ◌∷◌, Vec, map}
use Rattle.std.specs.Prelude.{IfSome}
use Rattle.std.specs.List.{list_any, list_all, All, AllZip}
use Rattle.std.specs.Option.{option_map, option_map_or}
use Rattle.std.specs.declared.alloc.Global.{Global}
use Rattle.ad_ids.specs.declared.token.Token.{Token}
use Rattle.ad_schema.specs.declared.line.SchemaRecord.{SchemaRecord}
use Rattle.ad_schema.specs.declared.info.AttrId.{AttrId}
use Rattle.ad_schema.specs.Attributes.{attr_named}
use Rattle.ad_dir_model.specs.Objects.{object_at}
use Rattle.ad_dir_model.specs.Identity.{first_of_attr}
use Rattle.ad_dir_model.specs.Directory.{Directory}
use Rattle.ad_questions.specs.declared.question.Question.{Question}
use Rattle.ad_questions.specs.Question.{question_of, IsQuestion}
use Rattle.ad_questions.specs.Requirements.{nobody, requirements, is_allowed}
use Rattle.ad_needs_rules.specs.Needs.{Alternative}
use Rattle.ad_sets.specs.Sets.{sets_of}
use Rattle.ad_rights_judged.specs.Judged.{AreJudged}
use Rattle.ad_rights_rows.specs.Kept.{AreEnds}
use Rattle.ad_control_graph.specs.declared.kind.Kind.{Kind}
use Rattle.ad_control_graph.specs.declared.graph.Graph.{Graph}
use Rattle.ad_control_graph.specs.Kinds.{Way, row, kinds}
use Rattle.ad_control_nodes.specs.declared.ground.Ground.{Ground}
use Rattle.ad_control_asked.specs.declared.judging.Judging.{Judging}
use Rattle.ad_control_asked.specs.declared.ways.Known.{Known}
use Rattle.ad_control_asked.specs.declared.ways.Ways.{Ways}
use Rattle.ad_control_asked.specs.Drawn.{AreDrawn}

-- ---- what is kept

-- What was judged is right, and each set of nodes that is known is that of the tokens.
pub record IsJudging (dir : Directory) (base : Ground) (graph : Graph) (judging : Judging) : Type 0 where
  pub judged : AreJudged dir base.parties.tokens.all.items judging.judged
  pub ends : AreEnds (sets_of judging.judged.sets) base.parties.tokens.all.items judging.ends
  pub drawn : AreDrawn (sets_of judging.judged.sets) base.at.items graph judging.drawn

-- ---- a question

-- the token is told yes, if there is such a question
abbrev pub is_told_yes : Directory → Token → ℕ → Option Question → Bool
is_told_yes dir token number question = option_map_or (λ (q : Question). is_allowed dir token q number) question false

-- what it asks for: nobody meets what there is no question for
abbrev pub needed_by : Directory → ℕ → Option Question → List (List Alternative)
needed_by dir number None = nobody
needed_by dir number (Some question) = requirements dir question number

-- each that there is is one of the schema
abbrev pub AreQuestions : List SchemaRecord → List (Option Question) → Type 0
AreQuestions schema questions = All (λ (question : Option Question). IfSome question (IsQuestion schema)) questions

-- ---- a way in a schema

-- its attributes and its questions, where the schema has them
pub record InSchema : Type 0 where
  pub stored : List (Option AttrId)
  pub asks : List (Option Question)

abbrev pub in_schema : List SchemaRecord → Way → InSchema
in_schema schema way = record {
  stored = map (attr_named schema) way.stored;
  asks = map (question_of schema) way.asks;
}

abbrev pub known_seen : Known → InSchema
known_seen known = record { stored = known.stored.items; asks = known.asks.items }

-- the object has a value of the attribute
abbrev pub is_stored : Directory → ℕ → Option AttrId → Bool
is_stored dir number attr =
    is_some (first_of_attr (option_map (λ (id : AttrId). id.0) attr) (object_at dir.objects number))

abbrev pub is_one_stored : Directory → ℕ → List (Option AttrId) → Bool
is_one_stored dir number [] = true
is_one_stored dir number (attr ∷ attrs) = list_any (is_stored dir number) (attr ∷ attrs)

abbrev pub goes_by : Directory → ℕ → Token → InSchema → Bool
goes_by dir number token way =
    is_one_stored dir number way.stored && list_all (is_told_yes dir token number) way.asks

-- ---- the table in a schema

-- these are the ways of the kind
pub record AreWaysOf (schema : List SchemaRecord) (kind : Kind) (known : List Known) : Type 0 where
  pub are : map known_seen known ≡ map (in_schema schema) (row kind).ways
  pub questions : All (λ (one : Known). AreQuestions schema one.asks.items) known

-- of each of these kinds its ways
abbrev pub AreWaysFor : List SchemaRecord → List Kind → List (Vec Known Global) → Type 0
AreWaysFor schema of_kinds all =
    AllZip (λ kind (known : Vec Known Global). AreWaysOf schema kind known.items) of_kinds all

-- of all kinds, in their order
abbrev pub AreWays : List SchemaRecord → Ways → Type 0
AreWays schema ways = AreWaysFor schema kinds ways.all.items
