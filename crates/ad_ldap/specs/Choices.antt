-- What the numbers in the fields of requests and controls mean.
use Rattle.std.specs.Prelude.{ℕ}

-- the scope of a search (RFC 4511 4.5.1.2): the base alone, the objects right below it, the base and all below it
abbrev pub base_object : ℕ
base_object = 0

abbrev pub single_level : ℕ
single_level = 1

abbrev pub whole_subtree : ℕ
whole_subtree = 2

-- the greatest number that says how a search treats aliases (RFC 4511 4.5.1.3)
abbrev pub deref_always : ℕ
deref_always = 3

-- what one change of a modify does with its values (RFC 4511 4.6)
abbrev pub add_values : ℕ
add_values = 0

abbrev pub delete_values : ℕ
delete_values = 1

abbrev pub replace_values : ℕ
replace_values = 2

-- the places of the bits of the flags of a descriptor ([MS-ADTS] 3.1.1.3.4.1.11)
abbrev pub owner_part : ℕ
owner_part = 0

abbrev pub group_part : ℕ
group_part = 1

abbrev pub dacl_part : ℕ
dacl_part = 2

abbrev pub sacl_part : ℕ
sacl_part = 3

-- all four
abbrev pub all_parts : ℕ
all_parts = 15

-- the number of a message that no request asked for (RFC 4511 4.4)
abbrev pub unsolicited : ℕ
unsolicited = 0
