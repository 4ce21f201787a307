-- The table's ways in a schema: what they ask for, and to whom they go.
use Rattle.std.proofs.Common.{◌≡◌, ◌∙◌, ℕ, zero, suc, Bool, true, false, ◌&&◌, ◌||◌, Option, Some, None, List, [], ◌∷◌}
use Rattle.std.proofs.Common.{◌≢◌, ◌+◌, ◌<◌, ◌++◌, Vec, length, take, get_or, map, refl, sym, ap, subst, arith}
use Rattle.std.specs.Prelude.{slice_get}
use Rattle.std.specs.List.{list_any, list_all, flat_map}
use Rattle.std.specs.declared.alloc.Global.{Global}
use Rattle.std.proofs.lemmas.Option.{none-some, same_Some}
use Rattle.std.proofs.lemmas.List.{take_more}
use Rattle.std.proofs.lemmas.List.Folds.{list_all-append}
use Rattle.std.proofs.lemmas.Slice.Zip.{all_zipped_more}
use Rattle.ad_ids.specs.declared.token.Token.{Token}
use Rattle.ad_schema.specs.declared.line.SchemaRecord.{SchemaRecord}
use Rattle.ad_schema.specs.declared.info.AttrId.{AttrId}
use Rattle.ad_schema.specs.Attributes.{attr_named}
use Rattle.ad_dir_model.specs.Directory.{Directory}
use Rattle.ad_needs_rules.specs.Needs.{is_met}
use Rattle.ad_questions.specs.declared.question.Question.{Question}
use Rattle.ad_questions.specs.Question.{question_of}
use Rattle.ad_questions.specs.Requirements.{are_met, is_allowed}
use Rattle.ad_control_graph.specs.declared.kind.Kind.{Kind}
use Rattle.ad_control_graph.specs.Kinds.{Way, row}
use Rattle.ad_control.specs.Edges.{has_value, has_one, may_ask, goes}
use Rattle.ad_control_asked.specs.declared.ways.Known.{Known}
use Rattle.ad_control_asked.specs.Asked.{is_told_yes, needed_by, in_schema, known_seen, is_stored, is_one_stored}
use Rattle.ad_control_asked.specs.Asked.{goes_by}
use Rattle.ad_control_asked.specs.Asked.{InSchema, AreWaysOf, AreWaysFor}

-- ---- what questions ask for

met_one : (dir : Directory) (token : Token) (number : ℕ) (question : Option Question)
    → are_met dir token (needed_by dir number question) ≡ is_told_yes dir token number question
unfolding is_met is_allowed
met_one dir token number None = refl
met_one dir token number (Some question) = refl

pub met_needed : (dir : Directory) (token : Token) (number : ℕ) (asks : List (Option Question))
    → are_met dir token (flat_map (needed_by dir number) asks) ≡ list_all (is_told_yes dir token number) asks
met_needed dir token number [] = refl
met_needed dir token number (question ∷ asks) =
    list_all-append (is_met dir token) (needed_by dir number question) (flat_map (needed_by dir number) asks)
    ∙ ap (λ (b : Bool). b && are_met dir token (flat_map (needed_by dir number) asks))
    (met_one dir token number question)
    ∙ ap (λ (b : Bool). is_told_yes dir token number question && b) (met_needed dir token number asks)

-- ---- to whom a way goes

stored_any : (dir : Directory) (number : ℕ) (names : List (List ℕ))
    → list_any (is_stored dir number) (map (attr_named dir.schema) names) ≡ list_any (has_value dir number) names
unfolding has_value
stored_any dir number [] = refl
stored_any dir number (name ∷ names) =
    ap (λ (b : Bool). is_stored dir number (attr_named dir.schema name) || b) (stored_any dir number names)

stored_one : (dir : Directory) (number : ℕ) (names : List (List ℕ))
    → is_one_stored dir number (map (attr_named dir.schema) names) ≡ has_one dir number names
stored_one dir number [] = refl
stored_one dir number (name ∷ names) = stored_any dir number (name ∷ names)

asked_all : (dir : Directory) (token : Token) (number : ℕ) (texts : List (List ℕ))
    → list_all (is_told_yes dir token number) (map (question_of dir.schema) texts)
    ≡ list_all (may_ask dir token number) texts
unfolding may_ask
asked_all dir token number [] = refl
asked_all dir token number (text ∷ texts) =
    ap (λ (b : Bool). is_told_yes dir token number (question_of dir.schema text) && b)
    (asked_all dir token number texts)

way_goes : (dir : Directory) (token : Token) (number : ℕ) (way : Way)
    → goes_by dir number token (in_schema dir.schema way) ≡ goes dir token number way
unfolding goes
way_goes dir token number way =
    ap (λ (b : Bool). b && list_all (is_told_yes dir token number) (map (question_of dir.schema) way.asks))
    (stored_one dir number way.stored)
    ∙ ap (λ (b : Bool). has_one dir number way.stored && b) (asked_all dir token number way.asks)

any_goes : (dir : Directory) (token : Token) (number : ℕ) (ways : List Way)
    → list_any (goes_by dir number token) (map (in_schema dir.schema) ways) ≡ list_any (goes dir token number) ways
any_goes dir token number [] = refl
any_goes dir token number (way ∷ ways) =
    ap (λ (b : Bool). b || list_any (goes_by dir number token) (map (in_schema dir.schema) ways))
    (way_goes dir token number way)
    ∙ ap (λ (b : Bool). goes dir token number way || b) (any_goes dir token number ways)

pub one_goes : (dir : Directory) (token : Token) (kind : Kind) (number : ℕ) (known : List Known)
    → AreWaysOf dir.schema kind known
    → list_any (goes_by dir number token) (map known_seen known) ≡ list_any (goes dir token number) (row kind).ways
one_goes dir token kind number known are =
    ap (list_any (goes_by dir number token)) are.are ∙ any_goes dir token number (row kind).ways

-- an object where none is named, and where one is
pub none_named : (dir : Directory) (number : ℕ) (attrs : List (Option AttrId)) → length attrs ≡ 0
    → is_one_stored dir number attrs ≡ true
none_named dir number [] none = refl
none_named dir number (attr ∷ attrs) none = absurd (omega (arith, none))

pub some_named : (dir : Directory) (number : ℕ) (attrs : List (Option AttrId)) → length attrs ≢ 0
    → is_one_stored dir number attrs ≡ list_any (is_stored dir number) attrs
some_named dir number [] some = absurd (some refl)
some_named dir number (attr ∷ attrs) some = refl

pub not_stored : (dir : Directory) (number : ℕ) (token : Token) (way : InSchema)
    → is_one_stored dir number way.stored ≡ false → goes_by dir number token way ≡ false
not_stored dir number token way none = ap (λ (b : Bool). b && list_all (is_told_yes dir token number) way.asks) none

pub is_stored_too : (dir : Directory) (number : ℕ) (token : Token) (way : InSchema)
    → is_one_stored dir number way.stored ≡ true
    → list_all (is_told_yes dir token number) way.asks ≡ goes_by dir number token way
is_stored_too dir number token way one =
    sym (ap (λ (b : Bool). b && list_all (is_told_yes dir token number) way.asks) one)

-- ---- the ways of a kind

pub ways_at : (schema : List SchemaRecord) (kinds : List Kind) (all : List (Vec Known Global)) (place : ℕ) (kind : Kind)
    → AreWaysFor schema kinds all
    → slice_get kinds place ≡ Some kind
    → (known : Vec Known Global) × (slice_get all place ≡ Some known) × AreWaysOf schema kind known.items
ways_at schema [] all place kind are at = absurd (none-some kind at)
ways_at schema (k ∷ kinds) [] place kind are at = absurd are
ways_at schema (k ∷ kinds) (known ∷ all) zero kind are at =
    let same : k ≡ kind = same_Some k kind at in
    (known, refl, subst (λ (one : Kind). AreWaysOf schema one known.items) same are.0)
ways_at schema (k ∷ kinds) (known ∷ all) (suc place) kind are at = ways_at schema kinds all place kind are.1 at

pub ways_more : (schema : List SchemaRecord) (kinds : List Kind) (i : ℕ) (d : Kind) (all more : List (Vec Known Global))
    (known : Vec Known Global) → i < length kinds → more ≡ all ++ known ∷ [] → AreWaysFor schema (take i kinds) all
    → AreWaysOf schema (get_or kinds i d) known.items → AreWaysFor schema (take (i + 1) kinds) more
ways_more schema kinds i d all more known lt more_is are is =
    subst (AreWaysFor schema (take (i + 1) kinds)) (sym more_is)
    (subst (λ (l : List Kind). AreWaysFor schema l (all ++ known ∷ [])) (sym (take_more kinds i d lt))
    (all_zipped_more (λ (k : Kind) (v : Vec Known Global). AreWaysOf schema k v.items) (take i kinds) all
    (get_or kinds i d) known are is))
