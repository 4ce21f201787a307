-- Writes that the checks of the whole object, and the rights, decide.
use Rattle.std.specs.Prelude.{◌≡◌, codes, [], ◌∷◌, refl}
use Rattle.ad_change.specs.Effects.{answered, changes_to}
use Rattle.tests_changes.specs.Base.{base, club, admin, ann}
use Rattle.ad_dir_model.specs.Object.{link}
use Rattle.ad_access.specs.Grant.{granted_as_owner, granted_by_entries}
use Rattle.ad_access.specs.Matching.{matches, speaks}
use Rattle.ad_acl.specs.Mask.{has_bit}
use Rattle.ad_acl.specs.Reading.{entry_at, fixed_at, guid_if, header_at as header_at_of_reading}
use Rattle.ad_acl.specs.Reading.{list_at as list_at_of_reading, list_header_at, shape_of}
use Rattle.ad_bytes.specs.Numbers.{be_at, be_bytes, byte_at, le_at, le_bytes, part_at}
use Rattle.ad_bytes.specs.Reading.{many_at}
use Rattle.ad_change.specs.Effects.{effect, later_checks, made}
use Rattle.ad_change_values.specs.Items.{after_item, after_items, all_item_checks, values_after, without}
use Rattle.ad_change.specs.Modifying.{modify_later, modify_made}
use Rattle.ad_change.specs.Tree.{fits_weight_limit}
use Rattle.ad_change_values.specs.Values.{all_stored, are_repeated, stored_of, target_of}
use Rattle.ad_dir_model.specs.Attributes.{is_single, attr_name, rule_place, syntax_at}
use Rattle.ad_change_values.specs.Values.{value_in as value_in_of_values}
use Rattle.ad_schema_classes.specs.Chains.{chain, chain_within, first_along, grown, has_guid}
use Rattle.ad_schema_classes.specs.Chains.{list_at as list_at_of_chains, listed, naming_by, option_at, set_of}
use Rattle.ad_schema_classes.specs.Chains.{set_within}
use Rattle.ad_schema_classes.specs.Names.{place_of, same_name}
use Rattle.ad_dn.specs.Fold.{folded}
use Rattle.ad_dn.specs.NameKey.{closed}
use Rattle.ad_dn.specs.Reading.{dn_of}
use Rattle.ad_dn.specs.Steps.{step_from}
use Rattle.ad_dn.specs.Text.{rdns_text, value_text}
use Rattle.ad_ids.specs.Guid.{guid_at as guid_at_of_guid}
use Rattle.ad_ids.specs.Sid.{sid_bytes}
use Rattle.ad_ids.specs.SidReading.{header_at as header_at_of_sidreading, sid_at}
use Rattle.ad_needs_rules.specs.Checks.{first_failing}
use Rattle.ad_needs_rules.specs.Descriptors.{asked_parts}
use Rattle.ad_needs_rules.specs.Modifying.{act_items, is_changed, is_forced, modify_checks, needs_behind}
use Rattle.ad_needs_rules.specs.Needs.{is_met, need_text, want_text, wants_text}
use Rattle.ad_acl.specs.Codes.{letters_of, right_codes}
use Rattle.ad_needs_rules.specs.Requests.{object_named}
use Rattle.ad_needs_rules.specs.Validated.{domain_name, host_in, is_own_host_name, is_own_membership, is_own_service}
use Rattle.ad_needs_rules.specs.Validated.{validated_write}
use Rattle.ad_needs_rules.specs.Verdicts.{verdict_of}
use Rattle.ad_schema.specs.Attributes.{attr_info, attr_named, attrs_of, is_confidential, lines_of, names_of}
use Rattle.ad_schema.specs.Classes.{all_mays, all_musts, all_neighbours, chain_of, class_guid, class_guids}
use Rattle.ad_schema.specs.Classes.{class_info, class_infos, classes_of, cn_of, is_a, is_allowed, is_may}
use Rattle.ad_schema.specs.Classes.{is_must, naming_of, neighbours, own_naming, own_namings, superclass}
use Rattle.ad_schema.specs.Classes.{superclasses}
use Rattle.ad_schema.specs.Fields.{value_of, values_of}
use Rattle.ad_schema.specs.Meaning.{attr_is_back_link, attr_is_link, attr_of_rule, counts, if_counts}
use Rattle.ad_schema.specs.Meaning.{is_back_link, is_computed, is_given, is_link, is_neither, is_never_missing}
use Rattle.ad_schema.specs.Numbers.{digits_behind, number, number_below, signed_bits, truth_of}
use Rattle.ad_value.specs.ValueOf.{normal_of, number_of, sid_of}
use Rattle.caseless.specs.Caseless.{default_case_fold}
use Rattle.std.specs.Str.{chars}
use Rattle.ad_access_dir.specs.Sight.{is_granted, is_visible, matched, visible_of}
use Rattle.ad_dir_model.specs.Changes.{changed, with_values}
use Rattle.ad_dir_model.specs.Identity.{first_of_attr, sid_in}
use Rattle.ad_dir_model.specs.Inheritance.{guid_at as guid_at_of_inheritance}
use Rattle.ad_dir_model.specs.Limits.{max_depth, max_weight}
use Rattle.ad_dir_model.specs.Names.{begins_with, child_named, child_of_rdn, directory_service, found, found_below}
use Rattle.ad_dir_model.specs.Names.{name_text, rdn_of, rdns_of, rdns_within}
use Rattle.ad_dir_model.specs.Object.{stored_in}
use Rattle.ad_dir_model.specs.Objects.{object_at, object_of, put}
use Rattle.ad_dir_model.specs.Settings.{list_object_mode, settings}
use Rattle.ad_dir_model.specs.Weight.{all_held_weight, object_weight, objects_weight, values_weight, weight}
use Rattle.ucd_case.specs.CaseFolding.{full_folding}
use Rattle.ucd_case.specs.FullFoldingRows.{full_folding_rows}
use Rattle.ucd_table.specs.Rows.{value_in as value_in_of_rows}
use Rattle.uuid.specs.Text.{by_index}
use Rattle.tests_changes.specs.Writes.{writes, item}

pub twice : writes admin (codes "CN=bob,OU=staff,DC=corp,DC=example")
    (item 0 (codes "description") ((codes "a") ∷ (codes "A") ∷ []) ∷ []) ≡ answered 20 [] []
unfolding granted_as_owner granted_by_entries matches speaks has_bit entry_at fixed_at guid_if header_at_of_reading
    list_at_of_reading list_header_at
    shape_of be_at be_bytes byte_at le_at le_bytes part_at many_at effect later_checks made after_item after_items
    all_item_checks modify_later
    modify_made values_after without fits_weight_limit all_stored are_repeated is_single stored_of target_of
    value_in_of_values chain chain_within
    first_along grown has_guid list_at_of_chains listed naming_by option_at set_of set_within place_of same_name
    folded closed dn_of step_from
    rdns_text value_text guid_at_of_guid sid_bytes header_at_of_sidreading sid_at first_failing asked_parts act_items
    is_changed is_forced
    modify_checks needs_behind letters_of right_codes is_met need_text want_text wants_text object_named domain_name
    host_in
    is_own_host_name is_own_membership
    is_own_service validated_write verdict_of attr_info attr_named attrs_of is_confidential lines_of names_of all_mays
    all_musts all_neighbours
    chain_of class_guid class_guids class_info class_infos classes_of cn_of is_a is_allowed is_may is_must naming_of
    neighbours own_naming own_namings
    superclass superclasses value_of values_of attr_is_back_link attr_is_link attr_of_rule counts if_counts
    is_back_link is_computed is_given is_link
    is_neither is_never_missing digits_behind number number_below signed_bits truth_of normal_of number_of sid_of
    default_case_fold chars is_granted
    is_visible matched visible_of attr_name rule_place syntax_at changed with_values first_of_attr sid_in
    guid_at_of_inheritance max_depth max_weight
    begins_with child_named child_of_rdn directory_service found found_below name_text rdn_of rdns_of rdns_within
    stored_in object_at object_of put
    list_object_mode settings all_held_weight object_weight objects_weight values_weight weight full_folding
    full_folding_rows value_in_of_rows
    by_index lib.Utf8.encode
twice = refl

pub one_alone : writes admin (codes "CN=bob,OU=staff,DC=corp,DC=example")
    (item 0 (codes "telephoneNumber") ((codes "1") ∷ (codes "2") ∷ []) ∷ []) ≡ answered 19 [] []
unfolding granted_as_owner granted_by_entries matches speaks has_bit entry_at fixed_at guid_if header_at_of_reading
    list_at_of_reading list_header_at
    shape_of be_at be_bytes byte_at le_at le_bytes part_at many_at effect later_checks made after_item after_items
    all_item_checks modify_later
    modify_made values_after without fits_weight_limit all_stored are_repeated is_single stored_of target_of
    value_in_of_values chain chain_within
    first_along grown has_guid list_at_of_chains listed naming_by option_at set_of set_within place_of same_name
    folded closed dn_of step_from
    rdns_text value_text guid_at_of_guid sid_bytes header_at_of_sidreading sid_at first_failing asked_parts act_items
    is_changed is_forced
    modify_checks needs_behind letters_of right_codes is_met need_text want_text wants_text object_named domain_name
    host_in
    is_own_host_name is_own_membership
    is_own_service validated_write verdict_of attr_info attr_named attrs_of is_confidential lines_of names_of all_mays
    all_musts all_neighbours
    chain_of class_guid class_guids class_info class_infos classes_of cn_of is_a is_allowed is_may is_must naming_of
    neighbours own_naming own_namings
    superclass superclasses value_of values_of attr_is_back_link attr_is_link attr_of_rule counts if_counts
    is_back_link is_computed is_given is_link
    is_neither is_never_missing digits_behind number number_below signed_bits truth_of normal_of number_of sid_of
    default_case_fold chars is_granted
    is_visible matched visible_of attr_name rule_place syntax_at changed with_values first_of_attr sid_in
    guid_at_of_inheritance max_depth max_weight
    begins_with child_named child_of_rdn directory_service found found_below name_text rdn_of rdns_of rdns_within
    stored_in object_at object_of put
    list_object_mode settings all_held_weight object_weight objects_weight values_weight weight full_folding
    full_folding_rows value_in_of_rows
    by_index lib.Utf8.encode
one_alone = refl

pub not_allowed : writes admin (codes "OU=staff,DC=corp,DC=example") (item 0 (codes "description") ((codes "a") ∷ [])
    ∷ []) ≡ answered 65 [] []
unfolding granted_as_owner granted_by_entries matches speaks has_bit entry_at fixed_at guid_if header_at_of_reading
    list_at_of_reading list_header_at
    shape_of be_at be_bytes byte_at le_at le_bytes part_at many_at effect later_checks made after_item after_items
    all_item_checks modify_later
    modify_made values_after without fits_weight_limit all_stored are_repeated is_single stored_of target_of
    value_in_of_values chain chain_within
    first_along grown has_guid list_at_of_chains listed naming_by option_at set_of set_within place_of same_name
    folded closed dn_of step_from
    rdns_text value_text guid_at_of_guid sid_bytes header_at_of_sidreading sid_at first_failing asked_parts act_items
    is_changed is_forced
    modify_checks needs_behind letters_of right_codes is_met need_text want_text wants_text object_named domain_name
    host_in
    is_own_host_name is_own_membership
    is_own_service validated_write verdict_of attr_info attr_named attrs_of is_confidential lines_of names_of all_mays
    all_musts all_neighbours
    chain_of class_guid class_guids class_info class_infos classes_of cn_of is_a is_allowed is_may is_must naming_of
    neighbours own_naming own_namings
    superclass superclasses value_of values_of attr_is_back_link attr_is_link attr_of_rule counts if_counts
    is_back_link is_computed is_given is_link
    is_neither is_never_missing digits_behind number number_below signed_bits truth_of normal_of number_of sid_of
    default_case_fold chars is_granted
    is_visible matched visible_of attr_name rule_place syntax_at changed with_values first_of_attr sid_in
    guid_at_of_inheritance max_depth max_weight
    begins_with child_named child_of_rdn directory_service found found_below name_text rdn_of rdns_of rdns_within
    stored_in object_at object_of put
    list_object_mode settings all_held_weight object_weight objects_weight values_weight weight full_folding
    full_folding_rows value_in_of_rows
    by_index lib.Utf8.encode
not_allowed = refl

pub no_target : writes admin (codes "CN=club,OU=staff,DC=corp,DC=example")
    (item 0 (codes "member") ((codes "CN=eve,OU=staff,DC=corp,DC=example") ∷ []) ∷ []) ≡ answered 19 [] []
unfolding granted_as_owner granted_by_entries matches speaks has_bit entry_at fixed_at guid_if header_at_of_reading
    list_at_of_reading list_header_at
    shape_of be_at be_bytes byte_at le_at le_bytes part_at many_at effect later_checks made after_item after_items
    all_item_checks modify_later
    modify_made values_after without fits_weight_limit all_stored are_repeated is_single stored_of target_of
    value_in_of_values chain chain_within
    first_along grown has_guid list_at_of_chains listed naming_by option_at set_of set_within place_of same_name
    folded closed dn_of step_from
    rdns_text value_text guid_at_of_guid sid_bytes header_at_of_sidreading sid_at first_failing asked_parts act_items
    is_changed is_forced
    modify_checks needs_behind letters_of right_codes is_met need_text want_text wants_text object_named domain_name
    host_in
    is_own_host_name is_own_membership
    is_own_service validated_write verdict_of attr_info attr_named attrs_of is_confidential lines_of names_of all_mays
    all_musts all_neighbours
    chain_of class_guid class_guids class_info class_infos classes_of cn_of is_a is_allowed is_may is_must naming_of
    neighbours own_naming own_namings
    superclass superclasses value_of values_of attr_is_back_link attr_is_link attr_of_rule counts if_counts
    is_back_link is_computed is_given is_link
    is_neither is_never_missing digits_behind number number_below signed_bits truth_of normal_of number_of sid_of
    default_case_fold chars is_granted
    is_visible matched visible_of attr_name rule_place syntax_at changed with_values first_of_attr sid_in
    guid_at_of_inheritance max_depth max_weight
    begins_with child_named child_of_rdn directory_service found found_below name_text rdn_of rdns_of rdns_within
    stored_in object_at object_of put
    list_object_mode settings all_held_weight object_weight objects_weight values_weight weight full_folding
    full_folding_rows value_in_of_rows
    by_index lib.Utf8.encode
no_target = refl

pub another_member : writes ann (codes "CN=club,OU=staff,DC=corp,DC=example")
    (item 0 (codes "member") ((codes "CN=bob,OU=staff,DC=corp,DC=example") ∷ []) ∷ [])
    ≡ answered 50 []
    (codes "missing WP 06060606-0606-0606-0606-060606060606 at CN=club,OU=staff,DC=corp,DC=example")
unfolding granted_as_owner granted_by_entries matches speaks has_bit entry_at fixed_at guid_if header_at_of_reading
    list_at_of_reading list_header_at
    shape_of be_at be_bytes byte_at le_at le_bytes part_at many_at effect later_checks made after_item after_items
    all_item_checks modify_later
    modify_made values_after without fits_weight_limit all_stored are_repeated is_single stored_of target_of
    value_in_of_values chain chain_within
    first_along grown has_guid list_at_of_chains listed naming_by option_at set_of set_within place_of same_name
    folded closed dn_of step_from
    rdns_text value_text guid_at_of_guid sid_bytes header_at_of_sidreading sid_at first_failing asked_parts act_items
    is_changed is_forced
    modify_checks needs_behind letters_of right_codes is_met need_text want_text wants_text object_named domain_name
    host_in
    is_own_host_name is_own_membership
    is_own_service validated_write verdict_of attr_info attr_named attrs_of is_confidential lines_of names_of all_mays
    all_musts all_neighbours
    chain_of class_guid class_guids class_info class_infos classes_of cn_of is_a is_allowed is_may is_must naming_of
    neighbours own_naming own_namings
    superclass superclasses value_of values_of attr_is_back_link attr_is_link attr_of_rule counts if_counts
    is_back_link is_computed is_given is_link
    is_neither is_never_missing digits_behind number number_below signed_bits truth_of normal_of number_of sid_of
    default_case_fold chars is_granted
    is_visible matched visible_of attr_name rule_place syntax_at changed with_values first_of_attr sid_in
    guid_at_of_inheritance max_depth max_weight
    begins_with child_named child_of_rdn directory_service found found_below name_text rdn_of rdns_of rdns_within
    stored_in object_at object_of put
    list_object_mode settings all_held_weight object_weight objects_weight values_weight weight full_folding
    full_folding_rows value_in_of_rows
    by_index lib.Utf8.encode
another_member = refl

pub one_valid_of_two : writes ann (codes "CN=club,OU=staff,DC=corp,DC=example")
    (item 0 (codes "member") ((codes "CN=ann,OU=staff,DC=corp,DC=example") ∷ [])
    ∷ item 1 (codes "member") ((codes "CN=bob,OU=staff,DC=corp,DC=example") ∷ []) ∷ [])
    ≡ answered 50 []
    (codes "missing WP 06060606-0606-0606-0606-060606060606 at CN=club,OU=staff,DC=corp,DC=example")
unfolding granted_as_owner granted_by_entries matches speaks has_bit entry_at fixed_at guid_if header_at_of_reading
    list_at_of_reading list_header_at
    shape_of be_at be_bytes byte_at le_at le_bytes part_at many_at effect later_checks made after_item after_items
    all_item_checks modify_later
    modify_made values_after without fits_weight_limit all_stored are_repeated is_single stored_of target_of
    value_in_of_values chain chain_within
    first_along grown has_guid list_at_of_chains listed naming_by option_at set_of set_within place_of same_name
    folded closed dn_of step_from
    rdns_text value_text guid_at_of_guid sid_bytes header_at_of_sidreading sid_at first_failing asked_parts act_items
    is_changed is_forced
    modify_checks needs_behind letters_of right_codes is_met need_text want_text wants_text object_named domain_name
    host_in
    is_own_host_name is_own_membership
    is_own_service validated_write verdict_of attr_info attr_named attrs_of is_confidential lines_of names_of all_mays
    all_musts all_neighbours
    chain_of class_guid class_guids class_info class_infos classes_of cn_of is_a is_allowed is_may is_must naming_of
    neighbours own_naming own_namings
    superclass superclasses value_of values_of attr_is_back_link attr_is_link attr_of_rule counts if_counts
    is_back_link is_computed is_given is_link
    is_neither is_never_missing digits_behind number number_below signed_bits truth_of normal_of number_of sid_of
    default_case_fold chars is_granted
    is_visible matched visible_of attr_name rule_place syntax_at changed with_values first_of_attr sid_in
    guid_at_of_inheritance max_depth max_weight
    begins_with child_named child_of_rdn directory_service found found_below name_text rdn_of rdns_of rdns_within
    stored_in object_at object_of put
    list_object_mode settings all_held_weight object_weight objects_weight values_weight weight full_folding
    full_folding_rows value_in_of_rows
    by_index lib.Utf8.encode
one_valid_of_two = refl

pub added_descriptor : writes admin (codes "CN=bob,OU=staff,DC=corp,DC=example")
    (item 0 (codes "nTSecurityDescriptor") ((codes "x") ∷ []) ∷ []) ≡ answered 53 [] []
unfolding granted_as_owner granted_by_entries matches speaks has_bit entry_at fixed_at guid_if header_at_of_reading
    list_at_of_reading list_header_at
    shape_of be_at be_bytes byte_at le_at le_bytes part_at many_at effect later_checks made after_item after_items
    all_item_checks modify_later
    modify_made values_after without fits_weight_limit all_stored are_repeated is_single stored_of target_of
    value_in_of_values chain chain_within
    first_along grown has_guid list_at_of_chains listed naming_by option_at set_of set_within place_of same_name
    folded closed dn_of step_from
    rdns_text value_text guid_at_of_guid sid_bytes header_at_of_sidreading sid_at first_failing asked_parts act_items
    is_changed is_forced
    modify_checks needs_behind letters_of right_codes is_met need_text want_text wants_text object_named domain_name
    host_in
    is_own_host_name is_own_membership
    is_own_service validated_write verdict_of attr_info attr_named attrs_of is_confidential lines_of names_of all_mays
    all_musts all_neighbours
    chain_of class_guid class_guids class_info class_infos classes_of cn_of is_a is_allowed is_may is_must naming_of
    neighbours own_naming own_namings
    superclass superclasses value_of values_of attr_is_back_link attr_is_link attr_of_rule counts if_counts
    is_back_link is_computed is_given is_link
    is_neither is_never_missing digits_behind number number_below signed_bits truth_of normal_of number_of sid_of
    default_case_fold chars is_granted
    is_visible matched visible_of attr_name rule_place syntax_at changed with_values first_of_attr sid_in
    guid_at_of_inheritance max_depth max_weight
    begins_with child_named child_of_rdn directory_service found found_below name_text rdn_of rdns_of rdns_within
    stored_in object_at object_of put
    list_object_mode settings all_held_weight object_weight objects_weight values_weight weight full_folding
    full_folding_rows value_in_of_rows
    by_index lib.Utf8.encode
added_descriptor = refl

pub own_membership : writes ann (codes "CN=club,OU=staff,DC=corp,DC=example")
    (item 0 (codes "member") ((codes "CN=ann,OU=staff,DC=corp,DC=example") ∷ []) ∷ [])
    ≡ changes_to (changed base (record club { values = with_values 5 (link 3 ∷ []) club.values }))
unfolding granted_as_owner granted_by_entries matches speaks has_bit entry_at fixed_at guid_if header_at_of_reading
    list_at_of_reading list_header_at
    shape_of be_at be_bytes byte_at le_at le_bytes part_at many_at effect later_checks made after_item after_items
    all_item_checks modify_later
    modify_made values_after without fits_weight_limit all_stored are_repeated is_single stored_of target_of
    value_in_of_values chain chain_within
    first_along grown has_guid list_at_of_chains listed naming_by option_at set_of set_within place_of same_name
    folded closed dn_of step_from
    rdns_text value_text guid_at_of_guid sid_bytes header_at_of_sidreading sid_at first_failing asked_parts act_items
    is_changed is_forced
    modify_checks needs_behind letters_of right_codes is_met need_text want_text wants_text object_named domain_name
    host_in
    is_own_host_name is_own_membership
    is_own_service validated_write verdict_of attr_info attr_named attrs_of is_confidential lines_of names_of all_mays
    all_musts all_neighbours
    chain_of class_guid class_guids class_info class_infos classes_of cn_of is_a is_allowed is_may is_must naming_of
    neighbours own_naming own_namings
    superclass superclasses value_of values_of attr_is_back_link attr_is_link attr_of_rule counts if_counts
    is_back_link is_computed is_given is_link
    is_neither is_never_missing digits_behind number number_below signed_bits truth_of normal_of number_of sid_of
    default_case_fold chars is_granted
    is_visible matched visible_of attr_name rule_place syntax_at changed with_values first_of_attr sid_in
    guid_at_of_inheritance max_depth max_weight
    begins_with child_named child_of_rdn directory_service found found_below name_text rdn_of rdns_of rdns_within
    stored_in object_at object_of put
    list_object_mode settings all_held_weight object_weight objects_weight values_weight weight full_folding
    full_folding_rows value_in_of_rows
    by_index lib.Utf8.encode
own_membership = refl
