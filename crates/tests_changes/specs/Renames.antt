-- Worked rows of renames and moves.
use Rattle.std.specs.Prelude.{◌≡◌, ℕ, codes, None, Some, List, [], refl}
use Rattle.ad_ids.specs.declared.token.Token.{Token}
use Rattle.ad_change.specs.Effects.{Effect, answered, changes_to}
use Rattle.tests_changes.specs.Base.{base, staff, admin, ann, plain_settings}
use Rattle.std.specs.Prelude.{Option, false}
use Rattle.ad_ldap.specs.MessageValue.{RenameOf}
use Rattle.ad_access.specs.Grant.{granted_as_owner, granted_by_entries}
use Rattle.ad_access.specs.Matching.{matches, speaks}
use Rattle.ad_acl.specs.Mask.{has_bit}
use Rattle.ad_bytes.specs.Numbers.{be_at, byte_at, le_at}
use Rattle.ad_bytes.specs.Reading.{many_at}
use Rattle.ad_change.specs.Effects.{effect, later_checks, made}
use Rattle.ad_change.specs.Renaming.{rename_later}
use Rattle.ad_change.specs.Tree.{depth_of, depth_within, fits_weight_limit, is_shallow_with}
use Rattle.ad_schema_classes.specs.Chains.{chain, chain_within, first_along, list_at, naming_by, option_at}
use Rattle.ad_schema_classes.specs.Names.{place_of, same_name}
use Rattle.ad_dn.specs.Fold.{folded}
use Rattle.ad_dn.specs.Reading.{dn_of}
use Rattle.ad_dn.specs.Steps.{step_from}
use Rattle.ad_dn.specs.Text.{rdns_text, value_text}
use Rattle.ad_ids.specs.SidReading.{header_at, sid_at}
use Rattle.ad_needs_rules.specs.Checks.{first_failing}
use Rattle.ad_needs_rules.specs.Needs.{is_met, need_text, want_text, wants_text}
use Rattle.ad_acl.specs.Codes.{letters_of, right_codes}
use Rattle.ad_needs_rules.specs.Renaming.{new_parent, rename_checks}
use Rattle.ad_needs_rules.specs.Requests.{object_named}
use Rattle.ad_needs_rules.specs.Verdicts.{verdict_of}
use Rattle.ad_schema.specs.Attributes.{attr_info, attr_named, attrs_of, is_confidential, lines_of, names_of}
use Rattle.ad_schema.specs.Classes.{all_superiors, chain_of, class_guid, class_guids, class_info, class_infos}
use Rattle.ad_schema.specs.Classes.{classes_of, cn_of, is_under, naming_of, own_naming, own_namings, superclass}
use Rattle.ad_schema.specs.Classes.{superclasses}
use Rattle.ad_schema.specs.Fields.{value_of, values_of}
use Rattle.ad_schema.specs.Meaning.{attr_of_rule, counts, if_counts, is_link, is_neither}
use Rattle.ad_schema.specs.Numbers.{digits_behind, number, number_below, signed_bits, truth_of}
use Rattle.ad_value.specs.ValueOf.{sid_of}
use Rattle.caseless.specs.Caseless.{default_case_fold}
use Rattle.std.specs.Str.{chars}
use Rattle.ad_access_dir.specs.Sight.{is_granted, is_visible, matched, visible_of}
use Rattle.ad_dir_model.specs.Attributes.{attr_name, rule_place}
use Rattle.ad_dir_model.specs.Changes.{changed, goes_with, renamed}
use Rattle.ad_dir_model.specs.Identity.{first_of_attr, sid_in}
use Rattle.ad_dir_model.specs.Inheritance.{guid_at}
use Rattle.ad_dir_model.specs.Limits.{max_depth, max_weight}
use Rattle.ad_dir_model.specs.Names.{begins_with, child_named, child_of_rdn, directory_service, found, found_below}
use Rattle.ad_dir_model.specs.Names.{name_text, rdn_of, rdns_of, rdns_within}
use Rattle.ad_dir_model.specs.Object.{stored_in}
use Rattle.ad_dir_model.specs.Objects.{object_at, object_of, put}
use Rattle.ad_dir_model.specs.Settings.{list_object_mode, settings}
use Rattle.ad_dir_model.specs.Tree.{is_below, is_below_within}
use Rattle.ad_dir_model.specs.Weight.{all_held_weight, object_weight, objects_weight, values_weight, weight}
use Rattle.ucd_case.specs.CaseFolding.{full_folding}
use Rattle.ucd_case.specs.FullFoldingRows.{full_folding_rows}
use Rattle.ucd_table.specs.Rows.{value_in}
use Rattle.uuid.specs.Text.{by_index}
use Rattle.ad_ids.specs.Sid.{sid_bytes}
use Rattle.ad_bytes.specs.Numbers.{be_bytes}
use Rattle.ad_bytes.specs.Numbers.{le_bytes}

abbrev pub renames : Token → List ℕ → List ℕ → Option (List ℕ) → Effect
renames token dn rdn superior = effect base token
    (RenameOf (record { dn = dn; rdn = rdn; keep = false; superior = superior })) plain_settings

pub two_parts : renames admin (codes "CN=bob,OU=staff,DC=corp,DC=example") (codes "CN=a,CN=b") None ≡ answered 34 [] []
unfolding granted_as_owner granted_by_entries matches speaks has_bit be_at byte_at le_at many_at effect later_checks
    made rename_later depth_of
    depth_within fits_weight_limit is_shallow_with chain chain_within first_along list_at naming_by option_at place_of
    same_name folded dn_of step_from
    rdns_text value_text header_at sid_at first_failing letters_of right_codes is_met need_text want_text wants_text
    new_parent
    rename_checks object_named verdict_of
    attr_info attr_named attrs_of is_confidential lines_of names_of all_superiors chain_of class_guid class_guids
    class_info class_infos classes_of
    cn_of is_under naming_of own_naming own_namings superclass superclasses value_of values_of attr_of_rule counts
    if_counts is_link is_neither
    digits_behind number number_below signed_bits truth_of sid_of default_case_fold chars is_granted is_visible
    matched visible_of attr_name
    rule_place changed goes_with renamed first_of_attr sid_in guid_at max_depth max_weight begins_with child_named
    child_of_rdn directory_service
    found found_below name_text rdn_of rdns_of rdns_within stored_in object_at object_of put list_object_mode settings
    is_below is_below_within
    all_held_weight object_weight objects_weight values_weight weight full_folding full_folding_rows value_in by_index
    sid_bytes be_bytes le_bytes
    lib.Utf8.encode
two_parts = refl

pub no_superior : renames admin (codes "CN=bob,OU=staff,DC=corp,DC=example") (codes "CN=bob")
    (Some (codes "OU=nowhere,DC=corp,DC=example"))
    ≡ answered 32 (codes "DC=corp,DC=example") []
unfolding granted_as_owner granted_by_entries matches speaks has_bit be_at byte_at le_at many_at effect later_checks
    made rename_later depth_of
    depth_within fits_weight_limit is_shallow_with chain chain_within first_along list_at naming_by option_at place_of
    same_name folded dn_of step_from
    rdns_text value_text header_at sid_at first_failing letters_of right_codes is_met need_text want_text wants_text
    new_parent
    rename_checks object_named verdict_of
    attr_info attr_named attrs_of is_confidential lines_of names_of all_superiors chain_of class_guid class_guids
    class_info class_infos classes_of
    cn_of is_under naming_of own_naming own_namings superclass superclasses value_of values_of attr_of_rule counts
    if_counts is_link is_neither
    digits_behind number number_below signed_bits truth_of sid_of default_case_fold chars is_granted is_visible
    matched visible_of attr_name
    rule_place changed goes_with renamed first_of_attr sid_in guid_at max_depth max_weight begins_with child_named
    child_of_rdn directory_service
    found found_below name_text rdn_of rdns_of rdns_within stored_in object_at object_of put list_object_mode settings
    is_below is_below_within
    all_held_weight object_weight objects_weight values_weight weight full_folding full_folding_rows value_in by_index
    sid_bytes be_bytes le_bytes
    lib.Utf8.encode
no_superior = refl

pub another_type : renames admin (codes "CN=bob,OU=staff,DC=corp,DC=example") (codes "OU=bob") None ≡ answered 64 [] []
unfolding granted_as_owner granted_by_entries matches speaks has_bit be_at byte_at le_at many_at effect later_checks
    made rename_later depth_of
    depth_within fits_weight_limit is_shallow_with chain chain_within first_along list_at naming_by option_at place_of
    same_name folded dn_of step_from
    rdns_text value_text header_at sid_at first_failing letters_of right_codes is_met need_text want_text wants_text
    new_parent
    rename_checks object_named verdict_of
    attr_info attr_named attrs_of is_confidential lines_of names_of all_superiors chain_of class_guid class_guids
    class_info class_infos classes_of
    cn_of is_under naming_of own_naming own_namings superclass superclasses value_of values_of attr_of_rule counts
    if_counts is_link is_neither
    digits_behind number number_below signed_bits truth_of sid_of default_case_fold chars is_granted is_visible
    matched visible_of attr_name
    rule_place changed goes_with renamed first_of_attr sid_in guid_at max_depth max_weight begins_with child_named
    child_of_rdn directory_service
    found found_below name_text rdn_of rdns_of rdns_within stored_in object_at object_of put list_object_mode settings
    is_below is_below_within
    all_held_weight object_weight objects_weight values_weight weight full_folding full_folding_rows value_in by_index
    sid_bytes be_bytes le_bytes
    lib.Utf8.encode
another_type = refl

pub into_itself : renames admin (codes "OU=staff,DC=corp,DC=example") (codes "OU=staff")
    (Some (codes "OU=staff,DC=corp,DC=example")) ≡ answered 53 [] []
unfolding granted_as_owner granted_by_entries matches speaks has_bit be_at byte_at le_at many_at effect later_checks
    made rename_later depth_of
    depth_within fits_weight_limit is_shallow_with chain chain_within first_along list_at naming_by option_at place_of
    same_name folded dn_of step_from
    rdns_text value_text header_at sid_at first_failing letters_of right_codes is_met need_text want_text wants_text
    new_parent
    rename_checks object_named verdict_of
    attr_info attr_named attrs_of is_confidential lines_of names_of all_superiors chain_of class_guid class_guids
    class_info class_infos classes_of
    cn_of is_under naming_of own_naming own_namings superclass superclasses value_of values_of attr_of_rule counts
    if_counts is_link is_neither
    digits_behind number number_below signed_bits truth_of sid_of default_case_fold chars is_granted is_visible
    matched visible_of attr_name
    rule_place changed goes_with renamed first_of_attr sid_in guid_at max_depth max_weight begins_with child_named
    child_of_rdn directory_service
    found found_below name_text rdn_of rdns_of rdns_within stored_in object_at object_of put list_object_mode settings
    is_below is_below_within
    all_held_weight object_weight objects_weight values_weight weight full_folding full_folding_rows value_in by_index
    sid_bytes be_bytes le_bytes
    lib.Utf8.encode
into_itself = refl

pub below_itself : renames admin (codes "OU=staff,DC=corp,DC=example") (codes "OU=staff")
    (Some (codes "CN=bob,OU=staff,DC=corp,DC=example")) ≡ answered 53 [] []
unfolding granted_as_owner granted_by_entries matches speaks has_bit be_at byte_at le_at many_at effect later_checks
    made rename_later depth_of
    depth_within fits_weight_limit is_shallow_with chain chain_within first_along list_at naming_by option_at place_of
    same_name folded dn_of step_from
    rdns_text value_text header_at sid_at first_failing letters_of right_codes is_met need_text want_text wants_text
    new_parent
    rename_checks object_named verdict_of
    attr_info attr_named attrs_of is_confidential lines_of names_of all_superiors chain_of class_guid class_guids
    class_info class_infos classes_of
    cn_of is_under naming_of own_naming own_namings superclass superclasses value_of values_of attr_of_rule counts
    if_counts is_link is_neither
    digits_behind number number_below signed_bits truth_of sid_of default_case_fold chars is_granted is_visible
    matched visible_of attr_name
    rule_place changed goes_with renamed first_of_attr sid_in guid_at max_depth max_weight begins_with child_named
    child_of_rdn directory_service
    found found_below name_text rdn_of rdns_of rdns_within stored_in object_at object_of put list_object_mode settings
    is_below is_below_within
    all_held_weight object_weight objects_weight values_weight weight full_folding full_folding_rows value_in by_index
    sid_bytes be_bytes le_bytes
    lib.Utf8.encode
below_itself = refl

pub without_a_need : renames ann (codes "CN=bob,OU=staff,DC=corp,DC=example") (codes "CN=rob") None
    ≡ answered 50 [] (codes "missing WP 01010101-0101-0101-0101-010101010101 at CN=bob,OU=staff,DC=corp,DC=example")
unfolding granted_as_owner granted_by_entries matches speaks has_bit be_at byte_at le_at many_at effect later_checks
    made rename_later depth_of
    depth_within fits_weight_limit is_shallow_with chain chain_within first_along list_at naming_by option_at place_of
    same_name folded dn_of step_from
    rdns_text value_text header_at sid_at first_failing letters_of right_codes is_met need_text want_text wants_text
    new_parent
    rename_checks object_named verdict_of
    attr_info attr_named attrs_of is_confidential lines_of names_of all_superiors chain_of class_guid class_guids
    class_info class_infos classes_of
    cn_of is_under naming_of own_naming own_namings superclass superclasses value_of values_of attr_of_rule counts
    if_counts is_link is_neither
    digits_behind number number_below signed_bits truth_of sid_of default_case_fold chars is_granted is_visible
    matched visible_of attr_name
    rule_place changed goes_with renamed first_of_attr sid_in guid_at max_depth max_weight begins_with child_named
    child_of_rdn directory_service
    found found_below name_text rdn_of rdns_of rdns_within stored_in object_at object_of put list_object_mode settings
    is_below is_below_within
    all_held_weight object_weight objects_weight values_weight weight full_folding full_folding_rows value_in by_index
    sid_bytes be_bytes le_bytes
    lib.Utf8.encode
without_a_need = refl

pub unlawful_parent : renames admin (codes "CN=bob,OU=staff,DC=corp,DC=example") (codes "CN=bob")
    (Some (codes "DC=corp,DC=example")) ≡ answered 64 [] []
unfolding granted_as_owner granted_by_entries matches speaks has_bit be_at byte_at le_at many_at effect later_checks
    made rename_later depth_of
    depth_within fits_weight_limit is_shallow_with chain chain_within first_along list_at naming_by option_at place_of
    same_name folded dn_of step_from
    rdns_text value_text header_at sid_at first_failing letters_of right_codes is_met need_text want_text wants_text
    new_parent
    rename_checks object_named verdict_of
    attr_info attr_named attrs_of is_confidential lines_of names_of all_superiors chain_of class_guid class_guids
    class_info class_infos classes_of
    cn_of is_under naming_of own_naming own_namings superclass superclasses value_of values_of attr_of_rule counts
    if_counts is_link is_neither
    digits_behind number number_below signed_bits truth_of sid_of default_case_fold chars is_granted is_visible
    matched visible_of attr_name
    rule_place changed goes_with renamed first_of_attr sid_in guid_at max_depth max_weight begins_with child_named
    child_of_rdn directory_service
    found found_below name_text rdn_of rdns_of rdns_within stored_in object_at object_of put list_object_mode settings
    is_below is_below_within
    all_held_weight object_weight objects_weight values_weight weight full_folding full_folding_rows value_in by_index
    sid_bytes be_bytes le_bytes
    lib.Utf8.encode
unlawful_parent = refl

pub taken : renames admin (codes "CN=bob,OU=staff,DC=corp,DC=example") (codes "CN=ANN") None ≡ answered 68 [] []
unfolding granted_as_owner granted_by_entries matches speaks has_bit be_at byte_at le_at many_at effect later_checks
    made rename_later depth_of
    depth_within fits_weight_limit is_shallow_with chain chain_within first_along list_at naming_by option_at place_of
    same_name folded dn_of step_from
    rdns_text value_text header_at sid_at first_failing letters_of right_codes is_met need_text want_text wants_text
    new_parent
    rename_checks object_named verdict_of
    attr_info attr_named attrs_of is_confidential lines_of names_of all_superiors chain_of class_guid class_guids
    class_info class_infos classes_of
    cn_of is_under naming_of own_naming own_namings superclass superclasses value_of values_of attr_of_rule counts
    if_counts is_link is_neither
    digits_behind number number_below signed_bits truth_of sid_of default_case_fold chars is_granted is_visible
    matched visible_of attr_name
    rule_place changed goes_with renamed first_of_attr sid_in guid_at max_depth max_weight begins_with child_named
    child_of_rdn directory_service
    found found_below name_text rdn_of rdns_of rdns_within stored_in object_at object_of put list_object_mode settings
    is_below is_below_within
    all_held_weight object_weight objects_weight values_weight weight full_folding full_folding_rows value_in by_index
    sid_bytes be_bytes le_bytes
    lib.Utf8.encode
taken = refl

pub in_place : renames admin (codes "OU=staff,DC=corp,DC=example") (codes "OU=STAFF")
    (Some (codes "DC=corp,DC=example")) ≡ changes_to (changed base (record staff { name = codes "STAFF" }))
unfolding granted_as_owner granted_by_entries matches speaks has_bit be_at byte_at le_at many_at effect later_checks
    made rename_later depth_of
    depth_within fits_weight_limit is_shallow_with chain chain_within first_along list_at naming_by option_at place_of
    same_name folded dn_of step_from
    rdns_text value_text header_at sid_at first_failing letters_of right_codes is_met need_text want_text wants_text
    new_parent
    rename_checks object_named verdict_of
    attr_info attr_named attrs_of is_confidential lines_of names_of all_superiors chain_of class_guid class_guids
    class_info class_infos classes_of
    cn_of is_under naming_of own_naming own_namings superclass superclasses value_of values_of attr_of_rule counts
    if_counts is_link is_neither
    digits_behind number number_below signed_bits truth_of sid_of default_case_fold chars is_granted is_visible
    matched visible_of attr_name
    rule_place changed goes_with renamed first_of_attr sid_in guid_at max_depth max_weight begins_with child_named
    child_of_rdn directory_service
    found found_below name_text rdn_of rdns_of rdns_within stored_in object_at object_of put list_object_mode settings
    is_below is_below_within
    all_held_weight object_weight objects_weight values_weight weight full_folding full_folding_rows value_in by_index
    sid_bytes be_bytes le_bytes
    lib.Utf8.encode
in_place = refl
