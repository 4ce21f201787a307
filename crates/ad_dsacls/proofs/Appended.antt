-- The name of a type, as it is put.
use Rattle.std.proofs.Common.{◌≡◌, ℕ, Option, Some, None, List, ap, sym, ◌∙◌}
use Rattle.std.specs.Prelude.{unwrap_or}
use Rattle.ad_ids.specs.declared.guid.Guid.{Guid}
use Rattle.ad_ids.specs.GuidText.{guid_text}
use Rattle.ad_schema.specs.declared.line.SchemaRecord.{SchemaRecord}
use Rattle.ad_dsacls.specs.Words.{schema_name, type_name, type_text}

pub named : (schema : List SchemaRecord) (guid : Option Guid) (g : Guid) (name : List ℕ)
    → guid ≡ Some g → Some name ≡ schema_name schema g → name ≡ type_text schema guid
unfolding type_name
named schema guid g name is found = ap (λ (o : Option (List ℕ)). unwrap_or o (guid_text g)) found
    ∙ ap (λ (o : Option Guid). type_text schema o) (sym is)

pub unnamed : (schema : List SchemaRecord) (guid : Option Guid) (g : Guid) (text : List ℕ)
    → guid ≡ Some g → None ≡ schema_name schema g → text ≡ guid_text g → text ≡ type_text schema guid
unfolding type_name
unnamed schema guid g text is found of_guid =
    of_guid ∙ ap (λ (o : Option (List ℕ)). unwrap_or o (guid_text g)) found
    ∙ ap (λ (o : Option Guid). type_text schema o) (sym is)
