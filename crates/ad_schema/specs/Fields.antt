-- The lines of a record: which have a meaning in a record of a kind, which are required, and how their values read.
use Rattle.std.specs.Prelude.{ℕ, ◌^◌, Bool, true, false, ◌||◌, List, [], ◌∷◌, codes, Option, None, find, map, filter}
use Rattle.std.specs.Prelude.{is_some, unwrap_or, if◌then◌else◌}
use Rattle.std.specs.List.{list_any}
use Rattle.std.specs.Option.{option_map}
use Rattle.ad_dn.specs.AttributeType.{is_type}
use Rattle.ad_ids.specs.GuidText.{guid_of}
use Rattle.ad_schema.specs.declared.line.SchemaKind.{SchemaKind}
use Rattle.ad_schema.specs.declared.line.SchemaKind.TheVariants.{Attribute, Class, Right}
use Rattle.ad_schema.specs.declared.line.Line.{Line}
use Rattle.ad_schema.specs.declared.field.Field.{Field}
use Rattle.ad_schema.specs.declared.field.Field.TheVariants as field
use Rattle.ad_schema_classes.specs.Names.{same_name}
use Rattle.ad_schema.specs.Numbers.{number_below, signed_bits, truth_of}
use Rattle.ad_ids.specs.GuidText.{guid_of_text}

-- ---- the table

-- how a line is named
abbrev pub name_of : Field → List ℕ
name_of field.DisplayName = codes "lDAPDisplayName"
name_of field.AttributeSyntax = codes "attributeSyntax"
name_of field.SchemaGuid = codes "schemaIDGUID"
name_of field.SingleValued = codes "isSingleValued"
name_of field.SecurityGuid = codes "attributeSecurityGUID"
name_of field.SearchFlags = codes "searchFlags"
name_of field.LinkId = codes "linkID"
name_of field.SubClassOf = codes "subClassOf"
name_of field.Category = codes "objectClassCategory"
name_of field.NamingAttribute = codes "rDNAttID"
name_of field.DefaultDescriptor = codes "defaultSecurityDescriptor"
name_of field.MustContain = codes "mustContain"
name_of field.MayContain = codes "mayContain"
name_of field.Superiors = codes "possSuperiors"
name_of field.Auxiliary = codes "auxiliaryClass"
name_of field.SystemMustContain = codes "systemMustContain"
name_of field.SystemMayContain = codes "systemMayContain"
name_of field.SystemSuperiors = codes "systemPossSuperiors"
name_of field.SystemAuxiliary = codes "systemAuxiliaryClass"
name_of field.CommonName = codes "cn"
name_of field.RightsGuid = codes "rightsGuid"
name_of field.ValidAccesses = codes "validAccesses"
name_of field.AppliesTo = codes "appliesTo"

-- the lines that a record has to have
abbrev pub required : SchemaKind → List Field
required Attribute = field.DisplayName ∷ field.AttributeSyntax ∷ field.SchemaGuid ∷ []
required Class = field.DisplayName ∷ field.SchemaGuid ∷ field.SubClassOf ∷ []
required Right = field.CommonName ∷ field.RightsGuid ∷ field.ValidAccesses ∷ []

-- all lines of a meaning; any other line is passed over
abbrev pub fields : SchemaKind → List Field
fields Attribute = field.DisplayName ∷ field.AttributeSyntax ∷ field.SchemaGuid ∷ field.SingleValued
    ∷ field.SecurityGuid ∷ field.SearchFlags ∷ field.LinkId ∷ []
fields Class = field.DisplayName ∷ field.SchemaGuid ∷ field.SubClassOf ∷ field.Category ∷ field.NamingAttribute
    ∷ field.DefaultDescriptor ∷ field.MustContain ∷ field.MayContain ∷ field.Superiors ∷ field.Auxiliary
    ∷ field.SystemMustContain ∷ field.SystemMayContain ∷ field.SystemSuperiors ∷ field.SystemAuxiliary ∷ []
fields Right = field.CommonName ∷ field.RightsGuid ∷ field.ValidAccesses ∷ field.AppliesTo ∷ []

-- the lists, of which a record may have several lines
abbrev pub is_list : Field → Bool
is_list field.MustContain = true
is_list field.MayContain = true
is_list field.Superiors = true
is_list field.Auxiliary = true
is_list field.SystemMustContain = true
is_list field.SystemMayContain = true
is_list field.SystemSuperiors = true
is_list field.SystemAuxiliary = true
is_list field.AppliesTo = true
is_list _ = false

-- whether a value can be read
abbrev pub reads : Field → List ℕ → Bool
reads field.DisplayName value = is_type value
reads field.SchemaGuid value = is_some (guid_of value)
reads field.SecurityGuid value = is_some (guid_of value)
reads field.SingleValued value = is_some (truth_of value)
reads field.SearchFlags value = is_some (signed_bits value)
reads field.LinkId value = is_some (number_below (2 ^ 32) value)
reads field.Category value = is_some (number_below (2 ^ 8) value)
reads field.RightsGuid value = is_some (guid_of_text value)
reads field.AppliesTo value = is_some (guid_of_text value)
reads field.ValidAccesses value = is_some (number_below (2 ^ 32) value)
reads _ value = true

-- ---- the lines of a record

abbrev pub is_line_of : Field → Line → Bool
is_line_of field line = same_name line.name (name_of field)

-- what a line says in a record of a kind
unfoldable pub field_of : SchemaKind → Line → Option Field
field_of kind line = find (λ field. is_line_of field line) (fields kind)

-- whether there is such a line
unfoldable pub has : Field → List Line → Bool
has field lines = list_any (is_line_of field) lines

-- the value of the first such line
unfoldable pub value_of : Field → List Line → Option (List ℕ)
value_of field lines = option_map (λ line. line.value) (find (is_line_of field) lines)

-- the same of a required line, which is there
abbrev pub text_of : Field → List Line → List ℕ
text_of field lines = unwrap_or (value_of field lines) []

-- the values of all lines of one of two names, in order
unfoldable pub values_of : Field → Field → List Line → List (List ℕ)
values_of field system lines = map (λ line. line.value)
    (filter (λ line. is_line_of field line || is_line_of system line) lines)

-- what a line of one of two names gives
unfoldable pub value_if : {A : Type 0} → (List ℕ → Option A) → Field → Field → Line → Option A
value_if f field system line = if is_line_of field line || is_line_of system line then f line.value else None
