-- Which question a text asks: for a right, or for what one intends.
use Rattle.std.specs.Prelude.{ℕ, ◌<◌, if◌then◌else◌, Option, Some, None, codes, List, length, take, drop}
use Rattle.std.specs.Option.{option_map}
use Rattle.std.specs.Str.{bytes_eq}
use Rattle.ad_schema.specs.declared.line.SchemaRecord.{SchemaRecord}
use Rattle.ad_schema.specs.declared.info.AttrId.{AttrId}
use Rattle.ad_schema.specs.declared.info.ClassId.{ClassId}
use Rattle.ad_schema.specs.Attributes.{attr_named, attrs_of}
use Rattle.ad_schema.specs.Classes.{class_named, classes_of}
use Rattle.ad_needs_rules.specs.Requests.{is_descriptor}
use Rattle.ad_questions.specs.declared.asked.Asked.{Asked}
use Rattle.ad_questions.specs.declared.question.Question.{Question}
use Rattle.ad_questions.specs.declared.question.Question.TheVariants as question
use Rattle.ad_questions.specs.Asked.{asked_of, IsAsked}

-- ---- a word by itself

unfoldable pub by_word : List ℕ → Option Question
by_word text =
    if bytes_eq text (codes "see") then Some question.See
    else (if bytes_eq text (codes "reset") then Some question.Reset
    else (if bytes_eq text (codes "join") then Some question.Join
    else (if bytes_eq text (codes "delete") then Some question.Delete
    else (if bytes_eq text (codes "dacl") then Some question.Dacl
    else (if bytes_eq text (codes "owner") then Some question.Owner
    else None)))))

-- ---- a word, a colon and a name

-- what stands in a text after a word that it begins with
unfoldable pub behind : List ℕ → List ℕ → Option (List ℕ)
behind word text = if bytes_eq (take (length word) text) word then Some (drop (length word) text) else None

-- an attribute is read; the descriptor is none, whether the schema names it or not
unfoldable pub reads : List SchemaRecord → List ℕ → Option Question
reads schema name = if is_descriptor name then Some question.ReadDescriptor
    else option_map (λ (attr : AttrId). question.Read attr) (attr_named schema name)

abbrev pub writes : List SchemaRecord → List ℕ → Option Question
writes schema name = option_map (λ (attr : AttrId). question.Write attr) (attr_named schema name)

abbrev pub adds : List SchemaRecord → List ℕ → Option Question
adds schema name = option_map (λ (class : ClassId). question.Add class) (class_named schema name)

-- ---- the text

abbrev pub rights : List SchemaRecord → List ℕ → Option Question
rights schema text = option_map (λ (asked : Asked). question.Right asked) (asked_of schema text)

-- what a name that is there is asked about, and else the other
abbrev pub of_name : Option (List ℕ) → (List ℕ → Option Question) → Option Question → Option Question
of_name None asks other = other
of_name (Some name) asks other = asks name

-- `read:` and an attribute, `write:` and an attribute, `add:` and a class, and else a right
unfoldable pub by_name : List SchemaRecord → List ℕ → Option Question
by_name schema text =
    of_name (behind (codes "read:") text) (reads schema)
    (of_name (behind (codes "write:") text) (writes schema)
    (of_name (behind (codes "add:") text) (adds schema) (rights schema text)))

-- the first question, where there is one, else the other
abbrev pub or_else : Option Question → Option Question → Option Question
or_else None other = other
or_else (Some question) other = Some question

-- a word, and else what the text names
unfoldable pub question_of : List SchemaRecord → List ℕ → Option Question
question_of schema text = or_else (by_word text) (by_name schema text)

-- ---- what code keeps of it

-- what it names is of the schema
abbrev pub IsQuestion : List SchemaRecord → Question → Type 0
IsQuestion schema (question.Right asked) = IsAsked schema asked
IsQuestion schema question.See = Unit {0}
IsQuestion schema (question.Read attr) = attr.0 < length (attrs_of schema)
IsQuestion schema question.ReadDescriptor = Unit {0}
IsQuestion schema (question.Write attr) = attr.0 < length (attrs_of schema)
IsQuestion schema question.Reset = Unit {0}
IsQuestion schema question.Join = Unit {0}
IsQuestion schema (question.Add class) = class.0 < length (classes_of schema)
IsQuestion schema question.Delete = Unit {0}
IsQuestion schema question.Dacl = Unit {0}
IsQuestion schema question.Owner = Unit {0}
