-- Worked rows of deletions.
use Rattle.std.specs.Prelude.{◌≡◌, ℕ, codes, List, [], ◌∷◌, refl}
use Rattle.ad_ids.specs.declared.token.Token.{Token}
use Rattle.ad_change.specs.Effects.{Effect, answered, changes_to}
use Rattle.tests_changes.specs.Base.{base, corp, staff, club, admin, ann, default_sd, object_of_class, with_sid}
use Rattle.tests_changes.specs.Base.{plain_settings}
use Rattle.std.specs.Prelude.{true}
use Rattle.ad_ldap.specs.declared.controls.Settings.{Settings}
use Rattle.ad_ldap.specs.MessageValue.{DeleteOf}
use Rattle.ad_dir_model.specs.Object.{link}
use Rattle.ad_dir_model.specs.Directory.{Directory}
use Rattle.ad_access.specs.Grant.{granted_as_owner, granted_by_entries}
use Rattle.ad_access.specs.Matching.{matches, speaks}
use Rattle.ad_acl.specs.Mask.{has_bit}
use Rattle.ad_bytes.specs.Numbers.{be_at, byte_at, le_at}
use Rattle.ad_bytes.specs.Reading.{many_at}
use Rattle.ad_change.specs.Deleting.{delete_later}
use Rattle.ad_change.specs.Effects.{effect, later_checks, made}
use Rattle.ad_schema_classes.specs.Chains.{chain, chain_within, first_along, naming_by, option_at}
use Rattle.ad_schema_classes.specs.Names.{place_of, same_name}
use Rattle.ad_dn.specs.Fold.{folded}
use Rattle.ad_dn.specs.Reading.{dn_of}
use Rattle.ad_dn.specs.Steps.{step_from}
use Rattle.ad_dn.specs.Text.{rdns_text, value_text}
use Rattle.ad_ids.specs.SidReading.{header_at, sid_at}
use Rattle.ad_needs_rules.specs.Checks.{first_failing}
use Rattle.ad_needs_rules.specs.Deleting.{delete_checks}
use Rattle.ad_needs_rules.specs.Needs.{is_met, need_text, want_text, wants_text}
use Rattle.ad_acl.specs.Codes.{letters_of, right_codes}
use Rattle.ad_needs_rules.specs.Requests.{object_named}
use Rattle.ad_needs_rules.specs.Verdicts.{verdict_of}
use Rattle.ad_schema.specs.Attributes.{attr_info, attr_named, attrs_of, is_confidential, lines_of, names_of}
use Rattle.ad_schema.specs.Classes.{class_guid, class_guids, cn_of, naming_of, own_naming, own_namings, superclass}
use Rattle.ad_schema.specs.Classes.{superclasses}
use Rattle.ad_schema.specs.Fields.{value_of}
use Rattle.ad_schema.specs.Meaning.{attr_of_rule, counts, if_counts, is_link, is_neither}
use Rattle.ad_schema.specs.Numbers.{digits_behind, number, number_below, signed_bits, truth_of}
use Rattle.ad_value.specs.ValueOf.{sid_of}
use Rattle.caseless.specs.Caseless.{default_case_fold}
use Rattle.std.specs.Str.{chars}
use Rattle.ad_access_dir.specs.Sight.{is_granted, is_visible, matched, visible_of}
use Rattle.ad_dir_model.specs.Attributes.{attr_name, rule_place}
use Rattle.ad_dir_model.specs.Changes.{deleted, goes_with, remaining, with_values}
use Rattle.ad_dir_model.specs.Identity.{first_of_attr, sid_in}
use Rattle.ad_dir_model.specs.Inheritance.{guid_at}
use Rattle.ad_dir_model.specs.Limits.{max_depth}
use Rattle.ad_dir_model.specs.Names.{begins_with, child_named, child_of_rdn, directory_service, found, found_below}
use Rattle.ad_dir_model.specs.Names.{name_text, rdn_of, rdns_of, rdns_within}
use Rattle.ad_dir_model.specs.Object.{stored_in}
use Rattle.ad_dir_model.specs.Objects.{next_child, object_at, object_of}
use Rattle.ad_dir_model.specs.Settings.{list_object_mode, settings}
use Rattle.ad_dir_model.specs.Tree.{is_below, is_below_within}
use Rattle.ucd_case.specs.CaseFolding.{full_folding}
use Rattle.ucd_case.specs.FullFoldingRows.{full_folding_rows}
use Rattle.ucd_table.specs.Rows.{value_in}
use Rattle.uuid.specs.Text.{by_index}
use Rattle.ad_ids.specs.Sid.{sid_bytes}
use Rattle.ad_bytes.specs.Numbers.{be_bytes}
use Rattle.ad_bytes.specs.Numbers.{le_bytes}

-- club has ann alone as member, and ann is pending
abbrev pub linked : Directory
linked = record base {
  objects = corp ∷ staff ∷ object_of_class 3 2 2 (codes "ann")
      (with_sid (1 ∷ 1001 ∷ [])) default_sd ∷ record club { values = with_values 5 (link 3 ∷ []) club.values } ∷ [];
  pending = record { parent = 3; cursor = 0 } ∷ [];
}

abbrev pub with_tree : Settings
with_tree = record { sd_flags = 15; tree = true }

abbrev pub deletes : Token → List ℕ → Effect
deletes token dn = effect base token (DeleteOf dn) plain_settings

pub no_name : deletes admin (codes "bob") ≡ answered 34 [] []
unfolding granted_as_owner granted_by_entries matches speaks has_bit be_at byte_at le_at many_at delete_later effect
    later_checks made chain
    chain_within first_along naming_by option_at place_of same_name folded dn_of step_from rdns_text value_text
    header_at sid_at first_failing
    delete_checks letters_of right_codes is_met need_text want_text wants_text object_named verdict_of attr_info
    attr_named attrs_of
    is_confidential lines_of
    names_of class_guid class_guids cn_of naming_of own_naming own_namings superclass superclasses value_of
    attr_of_rule counts if_counts is_link
    is_neither digits_behind number number_below signed_bits truth_of sid_of default_case_fold chars is_granted
    is_visible matched visible_of
    attr_name rule_place deleted goes_with remaining with_values first_of_attr sid_in guid_at max_depth begins_with
    child_named child_of_rdn
    directory_service found found_below name_text rdn_of rdns_of rdns_within stored_in next_child object_at object_of
    list_object_mode settings
    is_below is_below_within full_folding full_folding_rows value_in by_index sid_bytes be_bytes le_bytes
    lib.Utf8.encode
no_name = refl

pub not_there : deletes admin (codes "CN=eve,OU=staff,DC=corp,DC=example")
    ≡ answered 32 (codes "OU=staff,DC=corp,DC=example") []
unfolding granted_as_owner granted_by_entries matches speaks has_bit be_at byte_at le_at many_at delete_later effect
    later_checks made chain
    chain_within first_along naming_by option_at place_of same_name folded dn_of step_from rdns_text value_text
    header_at sid_at first_failing
    delete_checks letters_of right_codes is_met need_text want_text wants_text object_named verdict_of attr_info
    attr_named attrs_of
    is_confidential lines_of
    names_of class_guid class_guids cn_of naming_of own_naming own_namings superclass superclasses value_of
    attr_of_rule counts if_counts is_link
    is_neither digits_behind number number_below signed_bits truth_of sid_of default_case_fold chars is_granted
    is_visible matched visible_of
    attr_name rule_place deleted goes_with remaining with_values first_of_attr sid_in guid_at max_depth begins_with
    child_named child_of_rdn
    directory_service found found_below name_text rdn_of rdns_of rdns_within stored_in next_child object_at object_of
    list_object_mode settings
    is_below is_below_within full_folding full_folding_rows value_in by_index sid_bytes be_bytes le_bytes
    lib.Utf8.encode
not_there = refl

pub not_the_root : deletes admin (codes "DC=corp,DC=example") ≡ answered 53 [] []
unfolding granted_as_owner granted_by_entries matches speaks has_bit be_at byte_at le_at many_at delete_later effect
    later_checks made chain
    chain_within first_along naming_by option_at place_of same_name folded dn_of step_from rdns_text value_text
    header_at sid_at first_failing
    delete_checks letters_of right_codes is_met need_text want_text wants_text object_named verdict_of attr_info
    attr_named attrs_of
    is_confidential lines_of
    names_of class_guid class_guids cn_of naming_of own_naming own_namings superclass superclasses value_of
    attr_of_rule counts if_counts is_link
    is_neither digits_behind number number_below signed_bits truth_of sid_of default_case_fold chars is_granted
    is_visible matched visible_of
    attr_name rule_place deleted goes_with remaining with_values first_of_attr sid_in guid_at max_depth begins_with
    child_named child_of_rdn
    directory_service found found_below name_text rdn_of rdns_of rdns_within stored_in next_child object_at object_of
    list_object_mode settings
    is_below is_below_within full_folding full_folding_rows value_in by_index sid_bytes be_bytes le_bytes
    lib.Utf8.encode
not_the_root = refl

pub not_without_a_need : deletes ann (codes "CN=bob,OU=staff,DC=corp,DC=example")
    ≡ answered 50 []
    (codes "missing SD - at CN=bob,OU=staff,DC=corp,DC=example or DC 13131313-1313-1313-1313-131313131313 at OU=staff,DC=corp,DC=example")
unfolding granted_as_owner granted_by_entries matches speaks has_bit be_at byte_at le_at many_at delete_later effect
    later_checks made chain
    chain_within first_along naming_by option_at place_of same_name folded dn_of step_from rdns_text value_text
    header_at sid_at first_failing
    delete_checks letters_of right_codes is_met need_text want_text wants_text object_named verdict_of attr_info
    attr_named attrs_of
    is_confidential lines_of
    names_of class_guid class_guids cn_of naming_of own_naming own_namings superclass superclasses value_of
    attr_of_rule counts if_counts is_link
    is_neither digits_behind number number_below signed_bits truth_of sid_of default_case_fold chars is_granted
    is_visible matched visible_of
    attr_name rule_place deleted goes_with remaining with_values first_of_attr sid_in guid_at max_depth begins_with
    child_named child_of_rdn
    directory_service found found_below name_text rdn_of rdns_of rdns_within stored_in next_child object_at object_of
    list_object_mode settings
    is_below is_below_within full_folding full_folding_rows value_in by_index sid_bytes be_bytes le_bytes
    lib.Utf8.encode
not_without_a_need = refl

pub not_with_children : deletes admin (codes "OU=staff,DC=corp,DC=example") ≡ answered 66 [] []
unfolding granted_as_owner granted_by_entries matches speaks has_bit be_at byte_at le_at many_at delete_later effect
    later_checks made chain
    chain_within first_along naming_by option_at place_of same_name folded dn_of step_from rdns_text value_text
    header_at sid_at first_failing
    delete_checks letters_of right_codes is_met need_text want_text wants_text object_named verdict_of attr_info
    attr_named attrs_of
    is_confidential lines_of
    names_of class_guid class_guids cn_of naming_of own_naming own_namings superclass superclasses value_of
    attr_of_rule counts if_counts is_link
    is_neither digits_behind number number_below signed_bits truth_of sid_of default_case_fold chars is_granted
    is_visible matched visible_of
    attr_name rule_place deleted goes_with remaining with_values first_of_attr sid_in guid_at max_depth begins_with
    child_named child_of_rdn
    directory_service found found_below name_text rdn_of rdns_of rdns_within stored_in next_child object_at object_of
    list_object_mode settings
    is_below is_below_within full_folding full_folding_rows value_in by_index sid_bytes be_bytes le_bytes
    lib.Utf8.encode
not_with_children = refl

pub with_all_below : effect base admin (DeleteOf (codes "OU=staff,DC=corp,DC=example")) with_tree
    ≡ changes_to (record base { objects = corp ∷ [] })
unfolding granted_as_owner granted_by_entries matches speaks has_bit be_at byte_at le_at many_at delete_later effect
    later_checks made chain
    chain_within first_along naming_by option_at place_of same_name folded dn_of step_from rdns_text value_text
    header_at sid_at first_failing
    delete_checks letters_of right_codes is_met need_text want_text wants_text object_named verdict_of attr_info
    attr_named attrs_of
    is_confidential lines_of
    names_of class_guid class_guids cn_of naming_of own_naming own_namings superclass superclasses value_of
    attr_of_rule counts if_counts is_link
    is_neither digits_behind number number_below signed_bits truth_of sid_of default_case_fold chars is_granted
    is_visible matched visible_of
    attr_name rule_place deleted goes_with remaining with_values first_of_attr sid_in guid_at max_depth begins_with
    child_named child_of_rdn
    directory_service found found_below name_text rdn_of rdns_of rdns_within stored_in next_child object_at object_of
    list_object_mode settings
    is_below is_below_within full_folding full_folding_rows value_in by_index sid_bytes be_bytes le_bytes
    lib.Utf8.encode
with_all_below = refl

pub without_a_link : effect linked admin (DeleteOf (codes "CN=ann,OU=staff,DC=corp,DC=example")) plain_settings
    ≡ changes_to (record linked { objects = corp ∷ staff ∷ club ∷ []; pending = [] })
unfolding granted_as_owner granted_by_entries matches speaks has_bit be_at byte_at le_at many_at delete_later effect
    later_checks made chain
    chain_within first_along naming_by option_at place_of same_name folded dn_of step_from rdns_text value_text
    header_at sid_at first_failing
    delete_checks letters_of right_codes is_met need_text want_text wants_text object_named verdict_of attr_info
    attr_named attrs_of
    is_confidential lines_of
    names_of class_guid class_guids cn_of naming_of own_naming own_namings superclass superclasses value_of
    attr_of_rule counts if_counts is_link
    is_neither digits_behind number number_below signed_bits truth_of sid_of default_case_fold chars is_granted
    is_visible matched visible_of
    attr_name rule_place deleted goes_with remaining with_values first_of_attr sid_in guid_at max_depth begins_with
    child_named child_of_rdn
    directory_service found found_below name_text rdn_of rdns_of rdns_within stored_in next_child object_at object_of
    list_object_mode settings
    is_below is_below_within full_folding full_folding_rows value_in by_index sid_bytes be_bytes le_bytes
    lib.Utf8.encode
without_a_link = refl
