-- An attribute that counts for a rule is one of the schema.
use Rattle.std.proofs.Common.{◌≡◌, ℕ, ◌<◌, true, false, List, Option, Some, None, length, refl, sym, subst}
use Rattle.std.specs.Prelude.{IfSome, slice_get}
use Rattle.std.specs.Option.{option_map_or}
use Rattle.std.proofs.lemmas.Bool.{false≢true}
use Rattle.std.proofs.lemmas.Option.{cond_some, option_and_then_some, slice_get_within}
use Rattle.ad_schema.specs.declared.line.SchemaRecord.{SchemaRecord}
use Rattle.ad_schema.specs.declared.info.AttrId.{AttrId}
use Rattle.ad_schema.specs.declared.info.AttrInfo.{AttrInfo}
use Rattle.ad_schema.specs.declared.meaning.RuleAttr.{RuleAttr}
use Rattle.ad_schema.specs.Attributes.{attrs_of, attr_named}
use Rattle.ad_schema.specs.Meaning.{counts, rule_name, if_counts, attr_of_rule}

counted_within : (schema : List SchemaRecord) (which : RuleAttr) (attr : ℕ) (info : Option AttrInfo)
    → slice_get (attrs_of schema) attr ≡ info → option_map_or (counts which) info false ≡ true
    → attr < length (attrs_of schema)
counted_within schema which attr None there is = absurd (false≢true is)
counted_within schema which attr (Some info) there is = slice_get_within (attrs_of schema) attr info there

pub rule_in_range : (schema : List SchemaRecord) (which : RuleAttr) (found : Option AttrId)
    → found ≡ attr_of_rule schema which → IfSome found (λ id. id.0 < length (attrs_of schema))
unfolding attr_of_rule if_counts
rule_in_range schema which None is = tt
rule_in_range schema which (Some id) is =
    option_and_then_some (if_counts schema which) (attr_named schema (rule_name which)) id (sym is)
    (λ (x : AttrId) first second.
    let parts = cond_some (option_map_or (counts which) (slice_get (attrs_of schema) x.0) false) x id second in
    subst (λ (k : AttrId). k.0 < length (attrs_of schema)) parts.1
    (counted_within schema which x.0 (slice_get (attrs_of schema) x.0) refl parts.0))
