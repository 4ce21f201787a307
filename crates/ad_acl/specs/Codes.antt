-- The letters of rights and of flags, as the texts of descriptors have them.
use Rattle.std.specs.Prelude.{ℕ, ◌^◌, ◌==◌, if◌then◌else◌, List, [], ◌∷◌, codes}
use Rattle.ad_acl.specs.declared.codes.Code.{Code}
use Rattle.ad_acl.specs.Mask.{create_child, delete_child, list_children, self_write, read_property, write_property}
use Rattle.ad_acl.specs.Mask.{delete_tree, list_object, control_access, delete_object, read_control, write_dac}
use Rattle.ad_acl.specs.Mask.{write_owner, access_system_security, generic_all, generic_execute, generic_write}
use Rattle.ad_acl.specs.Mask.{generic_read}

-- two letters, and the one bit at the place
abbrev pub a_code : List ℕ → ℕ → Code
a_code letters place = record { letters = letters; bits = 2 ^ place; place = place }

-- the flags of an entry: object inherit, container inherit, no propagate, inherit only, inherited, successful
-- access and failed access
unfoldable pub flag_codes : List Code
flag_codes =
    a_code (codes "OI") 0 ∷
    a_code (codes "CI") 1 ∷
    a_code (codes "NP") 2 ∷
    a_code (codes "IO") 3 ∷
    a_code (codes "ID") 4 ∷
    a_code (codes "SA") 6 ∷
    a_code (codes "FA") 7 ∷
    []

-- the rights of an entry: on objects, on their descriptors, and the generic ones
unfoldable pub right_codes : List Code
right_codes =
    a_code (codes "CC") create_child ∷
    a_code (codes "DC") delete_child ∷
    a_code (codes "LC") list_children ∷
    a_code (codes "SW") self_write ∷
    a_code (codes "RP") read_property ∷
    a_code (codes "WP") write_property ∷
    a_code (codes "DT") delete_tree ∷
    a_code (codes "LO") list_object ∷
    a_code (codes "CR") control_access ∷
    a_code (codes "SD") delete_object ∷
    a_code (codes "RC") read_control ∷
    a_code (codes "WD") write_dac ∷
    a_code (codes "WO") write_owner ∷
    a_code (codes "GA") generic_all ∷
    a_code (codes "GX") generic_execute ∷
    a_code (codes "GW") generic_write ∷
    a_code (codes "GR") generic_read ∷
    []

-- those of the first code that has the bits
abbrev pub letters_in : List Code → ℕ → List ℕ
letters_in [] bits = []
letters_in (code ∷ table) bits = if code.bits == bits then code.letters else letters_in table bits

-- The letters of one right, as a mask. The right to the system access control list, which no text of a descriptor has,
-- has letters of its own. Any other mask has none.
unfoldable pub letters_of : ℕ → List ℕ
letters_of right = if right == 2 ^ access_system_security then codes "AS" else letters_in right_codes right
