-- Protection runs over a small directory: Administrators and the group club contain each other.
use Rattle.std.specs.Prelude.{◌≡◌, ℕ, true, false, codes, pos, Some, List, [], ◌∷◌, map, refl}
use Rattle.std.specs.Fmt.{digits}
use Rattle.ad_ids.specs.Sid.{sid_bytes}
use Rattle.ad_sd.specs.declared.parts.Sd.{Sd}
use Rattle.ad_schema.specs.declared.line.SchemaKind.TheVariants.{Attribute}
use Rattle.ad_schema.specs.declared.line.Line.{Line}
use Rattle.ad_schema.specs.declared.line.SchemaRecord.{SchemaRecord}
use Rattle.ad_value.specs.declared.value.Key.TheVariants as key
use Rattle.ad_value.specs.Value.{value, as_shown}
use Rattle.ad_dir_model.specs.Object.{plain, link, Held, Object, stored_in}
use Rattle.ad_dir_model.specs.Directory.{Directory}
use Rattle.ad_dir_model.specs.Protection.{Run, frozen, begins_protection, is_protected_alone, primary_group_sid}
use Rattle.ad_dir_model.specs.Protection.{has_group}
use Rattle.ad_dir_model.specs.Protection.{grown, spread, protected, admin_count, protected_object, all_protected}
use Rattle.ad_dir_model.specs.Protection.{run_from}
use Rattle.ad_bytes.specs.Numbers.{be_bytes, le_bytes, byte_at, be_at, le_at}
use Rattle.ad_bytes.specs.Reading.{many_at}
use Rattle.ad_ids.specs.SidReading.{header_at, sid_at}
use Rattle.ad_schema.specs.Attributes.{lines_of, names_of, attr_info, attrs_of, attr_named}
use Rattle.ad_schema.specs.Fields.{value_of}
use Rattle.ad_schema_classes.specs.Names.{same_name, place_of}
use Rattle.ad_schema.specs.Numbers.{number_below, number, digits_behind}
use Rattle.ad_schema.specs.Meaning.{is_neither, is_link, is_back_link, attr_is_link, attr_is_back_link, counts}
use Rattle.ad_schema.specs.Meaning.{if_counts, attr_of_rule}
use Rattle.ad_value.specs.ValueOf.{sid_of, normal_of, number_of}
use Rattle.ad_dir_model.specs.Attributes.{rule_place, syntax_at}
use Rattle.ad_dir_model.specs.Identity.{first_of_attr, sid_in, domain_sid, domain_child}
use Rattle.ad_dir_model.specs.Objects.{object_of, object_at, sd_at, put}
use Rattle.ad_dir_model.specs.SameSd.{same_sd}
use Rattle.ad_dir_model.specs.Inheritance.{marked_if_changed, stored}
use Rattle.ad_dir_model.specs.Changes.{with_values}
use Rattle.ad_dir_model.specs.examples.Staff.{pending_of, sd_of, root_entries}
use Rattle.ad_dir_model.specs.examples.Move.{default_sd, holder_sd}

-- ---- the schema: cn, objectSid, member, primaryGroupID and adminCount

abbrev pub line : List ℕ → List ℕ → Line
line name text = record { name = name; value = text }

abbrev pub attribute : List ℕ → List ℕ → List Line → SchemaRecord
attribute name oid more = record {
  kind = Attribute;
  lines = line (codes "lDAPDisplayName") name
      ∷ line (codes "attributeSyntax") oid ∷ more;
}

abbrev pub schema : List SchemaRecord
schema =
    attribute (codes "cn") (codes "2.5.5.12") []
    ∷ attribute (codes "objectSid") (codes "2.5.5.17") []
    ∷ attribute (codes "member") (codes "2.5.5.1") (line (codes "linkID") (codes "2") ∷ [])
    ∷ attribute (codes "primaryGroupID") (codes "2.5.5.9") []
    ∷ attribute (codes "adminCount") (codes "2.5.5.9") []
    ∷ []

-- ---- objects

abbrev pub sid_value : List ℕ → Held
sid_value numbers = record {
  attr = 1;
  values
      = plain (as_shown (sid_bytes (record { authority = 5; sub_authorities = numbers }))) ∷ [];
}

abbrev pub of_domain : ℕ → Held
of_domain rid = sid_value (21 ∷ 1 ∷ 2 ∷ 3 ∷ rid ∷ [])

abbrev pub members : List ℕ → Held
members numbers = record { attr = 2; values = map (λ n. link n) numbers }

abbrev pub primary : ℕ → List ℕ → Held
primary number text = record { attr = 3; values = plain (value text (key.Number (pos number))) ∷ [] }

abbrev pub object : ℕ → ℕ → List ℕ → List Held → Sd → Object
object number parent name values sd = record {
  number = number;
  parent = parent;
  class = 0;
  name = name;
  values
      = values;
  sd = sd;
}

-- club with these members, and bob with these values after his identifier
abbrev pub groups : List ℕ → List Held → Directory
groups of_club of_bob = record {
  schema = schema;
  objects =
      object 1 0 (codes "corp") (sid_value (21 ∷ 1 ∷ 2 ∷ 3 ∷ []) ∷ []) (sd_of false root_entries)
      ∷ object 2 1 (codes "System") [] default_sd
      ∷ object 4 1 (codes "Administrators") (sid_value (32 ∷ 544 ∷ []) ∷ members (7 ∷ 10 ∷ []) ∷ []) default_sd
      ∷ object 6 2 (codes "AdminSDHolder") [] holder_sd
      ∷ object 7 1 (codes "ann") (of_domain 1001 ∷ []) default_sd
      ∷ object 8 1 (codes "bob") (of_domain 1002 ∷ of_bob) default_sd
      ∷ object 10 1 (codes "club") (of_domain 1004 ∷ members of_club ∷ []) default_sd
      ∷ [];
  pending = [];
  meta = record { next_number = 14; next_rid = 1005; suffix = [] };
}

-- the descriptor of AdminSDHolder, which is protected and has no inherited entry, with both lists protected
abbrev pub frozen_holder : Sd
frozen_holder = record holder_sd { sacl = record { protected = true; entries = [] } }

-- ---- who is protected

pub those_of_administrators : protected (groups (4 ∷ []) []) ≡ 4 ∷ 7 ∷ 10 ∷ []
unfolding protected spread grown begins_protection is_protected_alone primary_group_sid has_group first_of_attr sid_in
    domain_sid domain_child rule_place stored_in object_of object_at is_neither is_link counts if_counts attr_of_rule
    lines_of names_of attr_info attrs_of place_of attr_named value_of same_name number_below number digits_behind
    sid_of header_at sid_at sid_bytes be_bytes le_bytes byte_at be_at le_at many_at
those_of_administrators = refl

-- with bob in club's member
pub with_a_member : protected (groups (4 ∷ 8 ∷ []) []) ≡ 4 ∷ 7 ∷ 8 ∷ 10 ∷ []
unfolding protected spread grown begins_protection is_protected_alone primary_group_sid has_group first_of_attr sid_in
    domain_sid domain_child rule_place stored_in object_of object_at is_neither is_link counts if_counts attr_of_rule
    lines_of names_of attr_info attrs_of place_of attr_named value_of same_name number_below number digits_behind
    sid_of header_at sid_at sid_bytes be_bytes le_bytes byte_at be_at le_at many_at
with_a_member = refl

-- with primaryGroupID 544 bob has no group: the domain's identifier with 544 is another one than S-1-5-32-544
pub with_a_number : protected (groups (4 ∷ []) (primary 544 (codes "544") ∷ [])) ≡ 4 ∷ 7 ∷ 10 ∷ []
unfolding protected spread grown begins_protection is_protected_alone primary_group_sid has_group first_of_attr sid_in
    domain_sid domain_child rule_place stored_in object_of object_at is_neither is_link counts if_counts attr_of_rule
    lines_of names_of attr_info attrs_of place_of attr_named value_of same_name number_below number digits_behind
    sid_of header_at sid_at sid_bytes be_bytes le_bytes byte_at be_at le_at many_at
with_a_number = refl

-- with primaryGroupID 1004 he has club
pub with_club : protected (groups (4 ∷ []) (primary 1004 (codes "1004") ∷ [])) ≡ 4 ∷ 7 ∷ 8 ∷ 10 ∷ []
unfolding protected spread grown begins_protection is_protected_alone primary_group_sid has_group first_of_attr sid_in
    domain_sid domain_child rule_place stored_in object_of object_at is_neither is_link counts if_counts attr_of_rule
    lines_of names_of attr_info attrs_of place_of attr_named value_of same_name number_below number digits_behind
    sid_of header_at sid_at sid_bytes be_bytes le_bytes byte_at be_at le_at many_at
with_club = refl

-- ---- runs, where object 6 is AdminSDHolder

abbrev pub first : Run
first = run_from (groups (4 ∷ []) []) (Some 6)

abbrev pub second : Run
second = run_from first.directory (Some 6)

pub three_change : (first.changed ≡ 3) × (first.protected ≡ 3)
unfolding protected spread grown begins_protection is_protected_alone primary_group_sid has_group first_of_attr sid_in
    domain_sid domain_child rule_place stored_in object_of object_at is_neither is_link counts if_counts attr_of_rule
    lines_of names_of attr_info attrs_of place_of attr_named value_of same_name number_below number digits_behind
    sid_of header_at sid_at sid_bytes be_bytes le_bytes byte_at be_at le_at many_at frozen all_protected
    protected_object admin_count with_values stored marked_if_changed put same_sd attr_is_link attr_is_back_link
    is_back_link syntax_at normal_of number_of digits
three_change = (refl, refl)

pub all_frozen : map (sd_at first.directory.objects) (4 ∷ 7 ∷ 10 ∷ []) ≡ frozen_holder ∷ frozen_holder ∷ frozen_holder
    ∷ []
unfolding protected spread grown begins_protection is_protected_alone primary_group_sid has_group first_of_attr sid_in
    domain_sid domain_child rule_place stored_in object_of object_at is_neither is_link counts if_counts attr_of_rule
    lines_of names_of attr_info attrs_of place_of attr_named value_of same_name number_below number digits_behind
    sid_of header_at sid_at sid_bytes be_bytes le_bytes byte_at be_at le_at many_at frozen all_protected
    protected_object admin_count with_values stored marked_if_changed put same_sd attr_is_link attr_is_back_link
    is_back_link syntax_at normal_of number_of digits
all_frozen = refl

pub all_marked : first.directory.pending ≡ pending_of 4 0 ∷ pending_of 7 0 ∷ pending_of 10 0 ∷ []
unfolding protected spread grown begins_protection is_protected_alone primary_group_sid has_group first_of_attr sid_in
    domain_sid domain_child rule_place stored_in object_of object_at is_neither is_link counts if_counts attr_of_rule
    lines_of names_of attr_info attrs_of place_of attr_named value_of same_name number_below number digits_behind
    sid_of header_at sid_at sid_bytes be_bytes le_bytes byte_at be_at le_at many_at frozen all_protected
    protected_object admin_count with_values stored marked_if_changed put same_sd attr_is_link attr_is_back_link
    is_back_link syntax_at normal_of number_of digits
all_marked = refl

pub none_changes : (second.changed ≡ 0) × (second.protected ≡ 3)
unfolding protected spread grown begins_protection is_protected_alone primary_group_sid has_group first_of_attr sid_in
    domain_sid domain_child rule_place stored_in object_of object_at is_neither is_link counts if_counts attr_of_rule
    lines_of names_of attr_info attrs_of place_of attr_named value_of same_name number_below number digits_behind
    sid_of header_at sid_at sid_bytes be_bytes le_bytes byte_at be_at le_at many_at frozen all_protected
    protected_object admin_count with_values stored marked_if_changed put same_sd attr_is_link attr_is_back_link
    is_back_link syntax_at normal_of number_of digits
none_changes = (refl, refl)
