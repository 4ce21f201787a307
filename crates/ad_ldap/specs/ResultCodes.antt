-- The result codes that are answered (RFC 4511 4.1.9 and appendix A).
use Rattle.std.specs.Prelude.{ℕ}

abbrev pub success : ℕ
success = 0

abbrev pub protocol_error : ℕ
protocol_error = 2

abbrev pub size_limit_exceeded : ℕ
size_limit_exceeded = 4

abbrev pub compare_false : ℕ
compare_false = 5

abbrev pub compare_true : ℕ
compare_true = 6

abbrev pub auth_method_not_supported : ℕ
auth_method_not_supported = 7

abbrev pub admin_limit_exceeded : ℕ
admin_limit_exceeded = 11

abbrev pub unavailable_critical_extension : ℕ
unavailable_critical_extension = 12

abbrev pub no_such_attribute : ℕ
no_such_attribute = 16

abbrev pub undefined_attribute_type : ℕ
undefined_attribute_type = 17

abbrev pub constraint_violation : ℕ
constraint_violation = 19

abbrev pub attribute_or_value_exists : ℕ
attribute_or_value_exists = 20

abbrev pub invalid_attribute_syntax : ℕ
invalid_attribute_syntax = 21

abbrev pub no_such_object : ℕ
no_such_object = 32

abbrev pub invalid_dn_syntax : ℕ
invalid_dn_syntax = 34

abbrev pub insufficient_access_rights : ℕ
insufficient_access_rights = 50

abbrev pub unwilling_to_perform : ℕ
unwilling_to_perform = 53

abbrev pub naming_violation : ℕ
naming_violation = 64

abbrev pub object_class_violation : ℕ
object_class_violation = 65

abbrev pub not_allowed_on_non_leaf : ℕ
not_allowed_on_non_leaf = 66

abbrev pub not_allowed_on_rdn : ℕ
not_allowed_on_rdn = 67

abbrev pub entry_already_exists : ℕ
entry_already_exists = 68

abbrev pub object_class_mods_prohibited : ℕ
object_class_mods_prohibited = 69
