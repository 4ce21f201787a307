-- What the code finds before it becomes text: masks of granted rights.
use Rattle.std.specs.Prelude.{ℕ, List, [], codes, slice_get}
use Rattle.std.specs.Option.{option_map_or}
use Rattle.ad_acl.specs.Codes.{right_codes}
use Rattle.ad_sddl.specs.Canonical.{codes_text}
use Rattle.ad_schema.specs.declared.line.SchemaRecord.{SchemaRecord}
use Rattle.ad_schema.specs.declared.info.AttrId.{AttrId}
use Rattle.ad_schema.specs.declared.info.AttrInfo.{AttrInfo}
use Rattle.ad_schema.specs.Attributes.{attrs_of}
use Rattle.ad_dsacls.specs.Effective.{line_of}
use Rattle.ad_access_dir.specs.Labels.{label_of}

-- the line of an attribute whose rights the mask has
unfoldable pub masked_line : List SchemaRecord → AttrId → ℕ → List ℕ
masked_line schema id mask =
    option_map_or (λ (info : AttrInfo). line_of (label_of (codes "attribute ") info.name)
    (codes_text right_codes mask)) (slice_get (attrs_of schema) id.0) []
