-- Worked rows of Add.
use Rattle.std.specs.Prelude.{◌≡◌, ℕ, codes, List, [], ◌∷◌, refl}
use Rattle.ad_ids.specs.declared.token.Token.{Token}
use Rattle.ad_change.specs.Effects.{Effect, answered}
use Rattle.tests_changes.specs.Base.{base, admin, plain_settings}
use Rattle.ad_ldap.specs.MessageValue.{AddOf}
use Rattle.ad_dir_model.specs.Directory.{Directory}
use Rattle.ad_access.specs.Grant.{granted_as_owner, granted_by_entries}
use Rattle.ad_access.specs.Matching.{matches, speaks}
use Rattle.ad_acl.specs.Mask.{has_bit}
use Rattle.ad_acl.specs.Reading.{entry_at, fixed_at, guid_if, header_at as header_at_of_reading}
use Rattle.ad_acl.specs.Reading.{list_at as list_at_of_reading, list_header_at, shape_of}
use Rattle.ad_bytes.specs.Numbers.{be_at, be_bytes, byte_at, le_at, le_bytes, part_at}
use Rattle.ad_bytes.specs.Reading.{many_at}
use Rattle.ad_change.specs.Adding.{add_later, all_held, fits_in, new_object}
use Rattle.ad_change.specs.Effects.{effect, later_checks, made}
use Rattle.ad_change.specs.Tree.{depth_of, depth_within, fits_weight_limit}
use Rattle.ad_change_values.specs.Values.{all_stored, are_repeated, stored_of, target_of}
use Rattle.ad_dir_model.specs.Attributes.{is_single, attr_name, rule_place, syntax_at}
use Rattle.ad_change_values.specs.Values.{value_in as value_in_of_values}
use Rattle.ad_schema_classes.specs.Chains.{chain, chain_within, first_along, grown, list_at as list_at_of_chains}
use Rattle.ad_schema_classes.specs.Chains.{listed, naming_by, option_at, set_of, set_within}
use Rattle.ad_schema_classes.specs.Names.{place_of, same_name}
use Rattle.ad_dn.specs.Fold.{folded}
use Rattle.ad_dn.specs.NameKey.{closed}
use Rattle.ad_dn.specs.Reading.{dn_of}
use Rattle.ad_dn.specs.Steps.{step_from}
use Rattle.ad_dn.specs.Text.{rdns_text, value_text}
use Rattle.ad_ids.specs.Guid.{guid_at as guid_at_of_guid}
use Rattle.ad_ids.specs.GuidText.{guid_of_text}
use Rattle.ad_ids.specs.Sid.{sid_bytes}
use Rattle.ad_ids.specs.SidFront.{longest}
use Rattle.ad_ids.specs.SidReading.{header_at as header_at_of_sidreading, sid_at}
use Rattle.ad_needs_rules.specs.Adding.{add_checks, all_naming_checks, all_ordinary, new_class, new_values}
use Rattle.ad_needs_rules.specs.Adding.{parent_named}
use Rattle.ad_needs_rules.specs.Adding.{sent}
use Rattle.ad_needs_rules.specs.Checks.{first_failing}
use Rattle.ad_needs_rules.specs.Descriptors.{asked_parts}
use Rattle.ad_needs_rules.specs.Needs.{is_met, need_text, want_text, wants_text}
use Rattle.ad_acl.specs.Codes.{letters_of, right_codes}
use Rattle.ad_schema_defaults.specs.NewClass.{class_by_names, classes_named, if_structural, is_structural, lowest_of}
use Rattle.ad_needs_rules.specs.Verdicts.{verdict_of}
use Rattle.ad_schema.specs.Attributes.{attr_info, attr_named, attrs_of, is_confidential, lines_of, names_of}
use Rattle.ad_schema.specs.Classes.{all_mays, all_musts, all_neighbours, all_superiors, chain_of, class_guid}
use Rattle.ad_schema.specs.Classes.{class_guids, class_info, class_infos, class_named, classes_of, cn_of}
use Rattle.ad_schema.specs.Classes.{is_allowed, is_may, is_must, is_under, naming_of, neighbours, own_naming}
use Rattle.ad_schema.specs.Classes.{own_namings, superclass, superclasses}
use Rattle.ad_schema.specs.Fields.{value_of, values_of}
use Rattle.ad_schema.specs.Meaning.{attr_is_back_link, attr_is_link, attr_of_rule, counts, if_counts}
use Rattle.ad_schema.specs.Meaning.{is_back_link, is_computed, is_given, is_link, is_neither, is_never_missing}
use Rattle.ad_schema.specs.Numbers.{digits_behind, number, number_below, signed_bits, truth_of}
use Rattle.ad_value.specs.ValueOf.{normal_of, number_of, sid_of}
use Rattle.caseless.specs.Caseless.{default_case_fold}
use Rattle.std.specs.Str.{chars}
use Rattle.ad_access_dir.specs.Sight.{is_granted, is_visible, matched, visible_of}
use Rattle.ad_dir_model.specs.Changes.{new_sid, with_values}
use Rattle.ad_dir_model.specs.Identity.{domain_child, domain_sid, first_of_attr, sid_in}
use Rattle.ad_dir_model.specs.Inheritance.{guid_at as guid_at_of_inheritance}
use Rattle.ad_dir_model.specs.Limits.{max_counter, max_depth, max_objects, max_weight}
use Rattle.ad_dir_model.specs.Names.{begins_with, child_named, child_of_rdn, directory_service, found, found_below}
use Rattle.ad_dir_model.specs.Names.{name_text, rdn_of, rdns_of, rdns_within}
use Rattle.ad_dir_model.specs.Object.{stored_in}
use Rattle.ad_dir_model.specs.Objects.{object_at, object_of, put}
use Rattle.ad_dir_model.specs.Settings.{list_object_mode, settings}
use Rattle.ad_dir_model.specs.Weight.{all_held_weight, object_weight, objects_weight, values_weight, weight}
use Rattle.ucd_case.specs.CaseFolding.{full_folding}
use Rattle.ucd_case.specs.FullFoldingRows.{full_folding_rows}
use Rattle.ucd_table.specs.Rows.{value_in as value_in_of_rows}
use Rattle.uuid.specs.Text.{by_index}

-- attributes of a user
abbrev pub user : List (List ℕ × List (List ℕ)) → List (List ℕ × List (List ℕ))
user others = (codes "objectClass", codes "user" ∷ []) ∷ others

abbrev pub adds_to : Directory → Token → List ℕ → List (List ℕ × List (List ℕ)) → Effect
adds_to dir token dn attrs = effect dir token (AddOf (record { dn = dn; attrs = attrs })) plain_settings

abbrev pub adds : Token → List ℕ → List (List ℕ × List (List ℕ)) → Effect
adds token dn attrs = adds_to base token dn attrs

-- no identifier is left
abbrev pub full : Directory
full = record base { meta = record { next_number = 7; next_rid = 4294967295; suffix = base.meta.suffix } }

pub no_class : adds admin (codes "CN=eve,OU=staff,DC=corp,DC=example") [] ≡ answered 65 [] []
unfolding granted_as_owner granted_by_entries matches speaks has_bit entry_at fixed_at guid_if header_at_of_reading
    list_at_of_reading list_header_at
    shape_of be_at be_bytes byte_at le_at le_bytes part_at many_at add_later all_held fits_in new_object effect
    later_checks made depth_of
    depth_within fits_weight_limit all_stored are_repeated is_single stored_of target_of value_in_of_values chain
    chain_within first_along grown
    list_at_of_chains listed naming_by option_at set_of set_within place_of same_name folded closed dn_of step_from
    rdns_text value_text
    guid_at_of_guid guid_of_text sid_bytes longest header_at_of_sidreading sid_at add_checks all_naming_checks
    all_ordinary new_class new_values
    parent_named sent first_failing asked_parts letters_of right_codes is_met need_text want_text wants_text
    class_by_names
    classes_named if_structural is_structural
    lowest_of verdict_of attr_info attr_named attrs_of is_confidential lines_of names_of all_mays all_musts
    all_neighbours all_superiors chain_of
    class_guid class_guids class_info class_infos class_named classes_of cn_of is_allowed is_may is_must is_under
    naming_of neighbours own_naming
    own_namings superclass superclasses value_of values_of attr_is_back_link attr_is_link attr_of_rule counts
    if_counts is_back_link is_computed
    is_given is_link is_neither is_never_missing digits_behind number number_below signed_bits truth_of normal_of
    number_of sid_of default_case_fold
    chars is_granted is_visible matched visible_of attr_name rule_place syntax_at new_sid with_values domain_child
    domain_sid first_of_attr sid_in
    guid_at_of_inheritance max_counter max_depth max_objects max_weight begins_with child_named child_of_rdn
    directory_service found found_below
    name_text rdn_of rdns_of rdns_within stored_in object_at object_of put list_object_mode settings all_held_weight
    object_weight objects_weight
    values_weight weight full_folding full_folding_rows value_in_of_rows by_index lib.Utf8.encode
no_class = refl

pub two_classes : adds admin (codes "CN=eve,OU=staff,DC=corp,DC=example")
    ((codes "objectClass", codes "group" ∷ codes "user" ∷ []) ∷ []) ≡ answered 65 [] []
unfolding granted_as_owner granted_by_entries matches speaks has_bit entry_at fixed_at guid_if header_at_of_reading
    list_at_of_reading list_header_at
    shape_of be_at be_bytes byte_at le_at le_bytes part_at many_at add_later all_held fits_in new_object effect
    later_checks made depth_of
    depth_within fits_weight_limit all_stored are_repeated is_single stored_of target_of value_in_of_values chain
    chain_within first_along grown
    list_at_of_chains listed naming_by option_at set_of set_within place_of same_name folded closed dn_of step_from
    rdns_text value_text
    guid_at_of_guid guid_of_text sid_bytes longest header_at_of_sidreading sid_at add_checks all_naming_checks
    all_ordinary new_class new_values
    parent_named sent first_failing asked_parts letters_of right_codes is_met need_text want_text wants_text
    class_by_names
    classes_named if_structural is_structural
    lowest_of verdict_of attr_info attr_named attrs_of is_confidential lines_of names_of all_mays all_musts
    all_neighbours all_superiors chain_of
    class_guid class_guids class_info class_infos class_named classes_of cn_of is_allowed is_may is_must is_under
    naming_of neighbours own_naming
    own_namings superclass superclasses value_of values_of attr_is_back_link attr_is_link attr_of_rule counts
    if_counts is_back_link is_computed
    is_given is_link is_neither is_never_missing digits_behind number number_below signed_bits truth_of normal_of
    number_of sid_of default_case_fold
    chars is_granted is_visible matched visible_of attr_name rule_place syntax_at new_sid with_values domain_child
    domain_sid first_of_attr sid_in
    guid_at_of_inheritance max_counter max_depth max_objects max_weight begins_with child_named child_of_rdn
    directory_service found found_below
    name_text rdn_of rdns_of rdns_within stored_in object_at object_of put list_object_mode settings all_held_weight
    object_weight objects_weight
    values_weight weight full_folding full_folding_rows value_in_of_rows by_index lib.Utf8.encode
two_classes = refl

pub roots_name : adds admin (codes "dc=corp,dc=example") (user []) ≡ answered 68 [] []
unfolding granted_as_owner granted_by_entries matches speaks has_bit entry_at fixed_at guid_if header_at_of_reading
    list_at_of_reading list_header_at
    shape_of be_at be_bytes byte_at le_at le_bytes part_at many_at add_later all_held fits_in new_object effect
    later_checks made depth_of
    depth_within fits_weight_limit all_stored are_repeated is_single stored_of target_of value_in_of_values chain
    chain_within first_along grown
    list_at_of_chains listed naming_by option_at set_of set_within place_of same_name folded closed dn_of step_from
    rdns_text value_text
    guid_at_of_guid guid_of_text sid_bytes longest header_at_of_sidreading sid_at add_checks all_naming_checks
    all_ordinary new_class new_values
    parent_named sent first_failing asked_parts letters_of right_codes is_met need_text want_text wants_text
    class_by_names
    classes_named if_structural is_structural
    lowest_of verdict_of attr_info attr_named attrs_of is_confidential lines_of names_of all_mays all_musts
    all_neighbours all_superiors chain_of
    class_guid class_guids class_info class_infos class_named classes_of cn_of is_allowed is_may is_must is_under
    naming_of neighbours own_naming
    own_namings superclass superclasses value_of values_of attr_is_back_link attr_is_link attr_of_rule counts
    if_counts is_back_link is_computed
    is_given is_link is_neither is_never_missing digits_behind number number_below signed_bits truth_of normal_of
    number_of sid_of default_case_fold
    chars is_granted is_visible matched visible_of attr_name rule_place syntax_at new_sid with_values domain_child
    domain_sid first_of_attr sid_in
    guid_at_of_inheritance max_counter max_depth max_objects max_weight begins_with child_named child_of_rdn
    directory_service found found_below
    name_text rdn_of rdns_of rdns_within stored_in object_at object_of put list_object_mode settings all_held_weight
    object_weight objects_weight
    values_weight weight full_folding full_folding_rows value_in_of_rows by_index lib.Utf8.encode
roots_name = refl

pub another_type : adds admin (codes "OU=eve,OU=staff,DC=corp,DC=example") (user []) ≡ answered 64 [] []
unfolding granted_as_owner granted_by_entries matches speaks has_bit entry_at fixed_at guid_if header_at_of_reading
    list_at_of_reading list_header_at
    shape_of be_at be_bytes byte_at le_at le_bytes part_at many_at add_later all_held fits_in new_object effect
    later_checks made depth_of
    depth_within fits_weight_limit all_stored are_repeated is_single stored_of target_of value_in_of_values chain
    chain_within first_along grown
    list_at_of_chains listed naming_by option_at set_of set_within place_of same_name folded closed dn_of step_from
    rdns_text value_text
    guid_at_of_guid guid_of_text sid_bytes longest header_at_of_sidreading sid_at add_checks all_naming_checks
    all_ordinary new_class new_values
    parent_named sent first_failing asked_parts letters_of right_codes is_met need_text want_text wants_text
    class_by_names
    classes_named if_structural is_structural
    lowest_of verdict_of attr_info attr_named attrs_of is_confidential lines_of names_of all_mays all_musts
    all_neighbours all_superiors chain_of
    class_guid class_guids class_info class_infos class_named classes_of cn_of is_allowed is_may is_must is_under
    naming_of neighbours own_naming
    own_namings superclass superclasses value_of values_of attr_is_back_link attr_is_link attr_of_rule counts
    if_counts is_back_link is_computed
    is_given is_link is_neither is_never_missing digits_behind number number_below signed_bits truth_of normal_of
    number_of sid_of default_case_fold
    chars is_granted is_visible matched visible_of attr_name rule_place syntax_at new_sid with_values domain_child
    domain_sid first_of_attr sid_in
    guid_at_of_inheritance max_counter max_depth max_objects max_weight begins_with child_named child_of_rdn
    directory_service found found_below
    name_text rdn_of rdns_of rdns_within stored_in object_at object_of put list_object_mode settings all_held_weight
    object_weight objects_weight
    values_weight weight full_folding full_folding_rows value_in_of_rows by_index lib.Utf8.encode
another_type = refl

pub given_identifier : adds admin (codes "CN=eve,OU=staff,DC=corp,DC=example")
    (user ((codes "objectSid", codes "S-1-5-18" ∷ []) ∷ [])) ≡ answered 53 [] []
unfolding granted_as_owner granted_by_entries matches speaks has_bit entry_at fixed_at guid_if header_at_of_reading
    list_at_of_reading list_header_at
    shape_of be_at be_bytes byte_at le_at le_bytes part_at many_at add_later all_held fits_in new_object effect
    later_checks made depth_of
    depth_within fits_weight_limit all_stored are_repeated is_single stored_of target_of value_in_of_values chain
    chain_within first_along grown
    list_at_of_chains listed naming_by option_at set_of set_within place_of same_name folded closed dn_of step_from
    rdns_text value_text
    guid_at_of_guid guid_of_text sid_bytes longest header_at_of_sidreading sid_at add_checks all_naming_checks
    all_ordinary new_class new_values
    parent_named sent first_failing asked_parts letters_of right_codes is_met need_text want_text wants_text
    class_by_names
    classes_named if_structural is_structural
    lowest_of verdict_of attr_info attr_named attrs_of is_confidential lines_of names_of all_mays all_musts
    all_neighbours all_superiors chain_of
    class_guid class_guids class_info class_infos class_named classes_of cn_of is_allowed is_may is_must is_under
    naming_of neighbours own_naming
    own_namings superclass superclasses value_of values_of attr_is_back_link attr_is_link attr_of_rule counts
    if_counts is_back_link is_computed
    is_given is_link is_neither is_never_missing digits_behind number number_below signed_bits truth_of normal_of
    number_of sid_of default_case_fold
    chars is_granted is_visible matched visible_of attr_name rule_place syntax_at new_sid with_values domain_child
    domain_sid first_of_attr sid_in
    guid_at_of_inheritance max_counter max_depth max_objects max_weight begins_with child_named child_of_rdn
    directory_service found found_below
    name_text rdn_of rdns_of rdns_within stored_in object_at object_of put list_object_mode settings all_held_weight
    object_weight objects_weight
    values_weight weight full_folding full_folding_rows value_in_of_rows by_index lib.Utf8.encode
given_identifier = refl
