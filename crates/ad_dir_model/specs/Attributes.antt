-- Attributes as a directory's rules see them, by their places in the schema.
use Rattle.std.specs.Prelude.{ℕ, Bool, false, ◌==◌, Option, unwrap_or, slice_get, codes, List, []}
use Rattle.std.specs.Option.{option_map, option_map_or}
use Rattle.ad_value.specs.declared.syntax.Syntax.{Syntax}
use Rattle.ad_value.specs.declared.syntax.Syntax.TheVariants as syntax
use Rattle.ad_schema.specs.declared.line.SchemaKind.TheVariants.{Attribute}
use Rattle.ad_schema.specs.declared.line.SchemaRecord.{SchemaRecord}
use Rattle.ad_schema.specs.declared.meaning.RuleAttr.{RuleAttr}
use Rattle.ad_schema.specs.declared.meaning.RuleAttr.TheVariants as rule
use Rattle.ad_schema.specs.Attributes.{attrs_of, names_of, attr_named}
use Rattle.ad_schema.specs.Meaning.{attr_of_rule}

-- ---- by name

-- the place of the attribute of a name
abbrev pub attr_place : List SchemaRecord → List ℕ → Option ℕ
attr_place schema name = option_map (λ id. id.0) (attr_named schema name)

abbrev pub is_named : List SchemaRecord → List ℕ → ℕ → Bool
is_named schema name attr = option_map_or (λ place. place == attr) (attr_place schema name) false

unfoldable pub attr_name : List SchemaRecord → ℕ → List ℕ
attr_name schema attr = unwrap_or (slice_get (names_of Attribute schema) attr) []

unfoldable pub syntax_at : List SchemaRecord → ℕ → Syntax
syntax_at schema attr = option_map_or (λ info. info.syntax) (slice_get (attrs_of schema) attr) syntax.Other

-- values of it are kept as their digests
abbrev pub is_password : List SchemaRecord → ℕ → Bool
is_password schema attr = is_named schema (codes "unicodePwd") attr

-- an object has one value of it at most
unfoldable pub is_single : List SchemaRecord → ℕ → Bool
is_single schema attr = option_map_or (λ info. info.single) (slice_get (attrs_of schema) attr) false

-- ---- those that rules name, where they count: objectSid, primaryGroupID, dSHeuristics and member

unfoldable pub rule_place : List SchemaRecord → RuleAttr → Option ℕ
rule_place schema which = option_map (λ id. id.0) (attr_of_rule schema which)

abbrev pub object_sid : List SchemaRecord → Option ℕ
object_sid schema = rule_place schema rule.ObjectSid

abbrev pub primary_group : List SchemaRecord → Option ℕ
primary_group schema = rule_place schema rule.PrimaryGroupId

abbrev pub heuristics : List SchemaRecord → Option ℕ
heuristics schema = rule_place schema rule.DsHeuristics

abbrev pub member : List SchemaRecord → Option ℕ
member schema = rule_place schema rule.Member
