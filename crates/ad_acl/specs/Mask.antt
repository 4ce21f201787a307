-- Access masks, one right at a time: which rights a mask has, and which rights a generic right represents.
use Rattle.std.specs.Prelude.{ℕ, Bool, ◌&&◌, ◌||◌, ◌==◌, nat_lt}
use Rattle.std.specs.Int.{bit_at}

-- the mask has the bit
unfoldable pub has_bit : ℕ → ℕ → Bool
has_bit mask bit = bit_at mask bit == 1

-- the places of the rights
abbrev pub create_child : ℕ
create_child = 0

abbrev pub delete_child : ℕ
delete_child = 1

abbrev pub list_children : ℕ
list_children = 2

abbrev pub self_write : ℕ
self_write = 3

abbrev pub read_property : ℕ
read_property = 4

abbrev pub write_property : ℕ
write_property = 5

abbrev pub delete_tree : ℕ
delete_tree = 6

abbrev pub list_object : ℕ
list_object = 7

abbrev pub control_access : ℕ
control_access = 8

abbrev pub delete_object : ℕ
delete_object = 16

abbrev pub read_control : ℕ
read_control = 17

abbrev pub write_dac : ℕ
write_dac = 18

abbrev pub write_owner : ℕ
write_owner = 19

abbrev pub access_system_security : ℕ
access_system_security = 24

abbrev pub generic_all : ℕ
generic_all = 28

abbrev pub generic_execute : ℕ
generic_execute = 29

abbrev pub generic_write : ℕ
generic_write = 30

abbrev pub generic_read : ℕ
generic_read = 31

-- the place of a flag that a rule names
abbrev pub inherit_only : ℕ
inherit_only = 3

-- what each generic right represents: all of the rights of objects and of descriptors,
abbrev pub rights_of_all : ℕ
rights_of_all = 0xf01ff

-- to read the descriptor and to list children,
abbrev pub rights_of_execute : ℕ
rights_of_execute = 0x20004

-- to read the descriptor, to write properties and to do validated writes,
abbrev pub rights_of_write : ℕ
rights_of_write = 0x20028

-- and to read the descriptor and properties, to list children and to list the object
abbrev pub rights_of_read : ℕ
rights_of_read = 0x20094

-- After mapping the mask has its own rights below the generic ones, and each right that one of its generic rights
-- represents. The generic rights themselves are gone.
abbrev pub mapped_has : ℕ → ℕ → Bool
mapped_has mask bit =
    (has_bit mask bit && nat_lt bit generic_all)
    || (has_bit mask generic_all && has_bit rights_of_all bit)
    || (has_bit mask generic_execute && has_bit rights_of_execute bit)
    || (has_bit mask generic_write && has_bit rights_of_write bit)
    || (has_bit mask generic_read && has_bit rights_of_read bit)
