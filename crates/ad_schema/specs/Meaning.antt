-- What attributes and classes are to a directory: links and back links, the attributes that no object lacks, those
-- that rules name, and which class is in the chain of another.
use Rattle.std.specs.Prelude.{ℕ, ◌%◌, Bool, true, false, not, ◌&&◌, ◌||◌, ◌==◌, List, codes, Option, Some, None}
use Rattle.std.specs.Prelude.{slice_get, if◌then◌else◌}
use Rattle.std.specs.Option.{option_map_or, option_and_then}
use Rattle.ad_value.specs.declared.syntax.Syntax.{Syntax}
use Rattle.ad_value.specs.declared.syntax.Syntax.TheVariants as syntax
use Rattle.ad_schema.specs.declared.line.SchemaRecord.{SchemaRecord}
use Rattle.ad_schema.specs.declared.info.AttrId.{AttrId}
use Rattle.ad_schema.specs.declared.info.AttrInfo.{AttrInfo}
use Rattle.ad_schema.specs.declared.meaning.RuleAttr.{RuleAttr}
use Rattle.ad_schema.specs.declared.meaning.RuleAttr.TheVariants as rule
use Rattle.ad_schema_classes.specs.Names.{same_name}
use Rattle.ad_schema.specs.Attributes.{attrs_of, attr_named}
use Rattle.ad_schema_classes.specs.Chains.{contains}
use Rattle.ad_schema.specs.Classes.{chain_of, naming_of}

-- ---- links

-- the five that are neither a link nor a back link, whatever linkID says
unfoldable pub is_neither : List ℕ → Bool
is_neither name =
    same_name name (codes "objectClass") || same_name name (codes "distinguishedName") || same_name name (codes "name")
    || same_name name (codes "unicodePwd") || same_name name (codes "nTSecurityDescriptor")

-- an attribute with odd linkID
unfoldable pub is_back_link : AttrInfo → Bool
is_back_link info = not (is_neither info.name) && option_map_or (λ id. id % 2 == 1) info.link false

-- the syntax of names, 2.5.5.1
abbrev pub is_of_names : Syntax → Bool
is_of_names syntax.Name = true
is_of_names _ = false

-- an attribute with even linkID and the syntax of names
unfoldable pub is_link : AttrInfo → Bool
is_link info = not (is_neither info.name) && option_map_or (λ id. id % 2 == 0) info.link false
    && is_of_names info.syntax

-- the same of the attribute of this place
unfoldable pub attr_is_link : List SchemaRecord → ℕ → Bool
attr_is_link records attr = option_map_or is_link (slice_get (attrs_of records) attr) false

unfoldable pub attr_is_back_link : List SchemaRecord → ℕ → Bool
attr_is_back_link records attr = option_map_or is_back_link (slice_get (attrs_of records) attr) false

-- ---- attributes that no object lacks

-- the names of those that are made of the object itself, and of those that each object has from its beginning
unfoldable pub is_computed : List ℕ → Bool
is_computed name =
    same_name name (codes "objectClass") || same_name name (codes "distinguishedName")
    || same_name name (codes "name") || same_name name (codes "nTSecurityDescriptor")

unfoldable pub is_given : List ℕ → Bool
is_given name =
    same_name name (codes "objectCategory") || same_name name (codes "instanceType")
    || same_name name (codes "objectSid") || same_name name (codes "sAMAccountName")

-- No object of the class lacks the attribute: it has one of these names, or is the class's naming attribute.
unfoldable pub is_never_missing : List SchemaRecord → ℕ → ℕ → Bool
is_never_missing records class attr =
    naming_of records class == attr || option_map_or (λ info. is_computed info.name || is_given info.name)
    (slice_get (attrs_of records) attr) false

-- ---- attributes that rules name

abbrev pub rule_name : RuleAttr → List ℕ
rule_name rule.ObjectSid = codes "objectSid"
rule_name rule.PrimaryGroupId = codes "primaryGroupID"
rule_name rule.DsHeuristics = codes "dSHeuristics"
rule_name rule.Member = codes "member"

abbrev pub is_of_sids : Syntax → Bool
is_of_sids syntax.Sid = true
is_of_sids _ = false

abbrev pub is_of_integers : Syntax → Bool
is_of_integers syntax.Integer = true
is_of_integers _ = false

abbrev pub is_of_texts : Syntax → Bool
is_of_texts syntax.Unicode = true
is_of_texts _ = false

-- An attribute of this name counts for the rule only where it has the syntax of the base schema: 2.5.5.17, 2.5.5.9,
-- 2.5.5.12, and member 2.5.5.1; and member only where it is a link.
unfoldable pub counts : RuleAttr → AttrInfo → Bool
counts rule.ObjectSid info = is_of_sids info.syntax
counts rule.PrimaryGroupId info = is_of_integers info.syntax
counts rule.DsHeuristics info = is_of_texts info.syntax
counts rule.Member info = is_link info

-- the attribute at a place, where it counts
unfoldable pub if_counts : List SchemaRecord → RuleAttr → AttrId → Option AttrId
if_counts records rule id = if option_map_or (counts rule) (slice_get (attrs_of records) id.0) false then Some id
    else None

-- The attribute that a rule means. Where there is none, no object has a value for the rule.
unfoldable pub attr_of_rule : List SchemaRecord → RuleAttr → Option AttrId
attr_of_rule records rule = option_and_then (if_counts records rule) (attr_named records (rule_name rule))

-- ---- classes

-- whether a class is another or stands above it
unfoldable pub is_in_chain : List SchemaRecord → ℕ → ℕ → Bool
is_in_chain records class superior = contains (chain_of records class) superior
