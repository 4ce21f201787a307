-- The tags of the elements of messages (RFC 4511 4 and 5.1): the first byte of an element.
use Rattle.std.specs.Prelude.{ℕ}

-- ---- of every kind of message

abbrev pub boolean : ℕ
boolean = 1

abbrev pub integer : ℕ
integer = 2

abbrev pub octet_string : ℕ
octet_string = 4

abbrev pub enumerated : ℕ
enumerated = 10

abbrev pub sequence : ℕ
sequence = 48

abbrev pub set : ℕ
set = 49

-- the controls of a message
abbrev pub tag_of_controls : ℕ
tag_of_controls = 160

-- ---- requests

abbrev pub bind_request : ℕ
bind_request = 96

abbrev pub unbind_request : ℕ
unbind_request = 66

abbrev pub search_request : ℕ
search_request = 99

abbrev pub modify_request : ℕ
modify_request = 102

abbrev pub add_request : ℕ
add_request = 104

abbrev pub delete_request : ℕ
delete_request = 74

abbrev pub rename_request : ℕ
rename_request = 108

abbrev pub compare_request : ℕ
compare_request = 110

abbrev pub abandon_request : ℕ
abandon_request = 80

abbrev pub extended_request : ℕ
extended_request = 119

-- the new parent in a rename request
abbrev pub new_superior : ℕ
new_superior = 128

-- ---- filters

abbrev pub and_filter : ℕ
and_filter = 160

abbrev pub or_filter : ℕ
or_filter = 161

abbrev pub not_filter : ℕ
not_filter = 162

abbrev pub equality_match : ℕ
equality_match = 163

abbrev pub substrings : ℕ
substrings = 164

abbrev pub greater_or_equal : ℕ
greater_or_equal = 165

abbrev pub less_or_equal : ℕ
less_or_equal = 166

abbrev pub presence : ℕ
presence = 135

abbrev pub approximate_match : ℕ
approximate_match = 168

abbrev pub extensible_match : ℕ
extensible_match = 169

-- the pieces of substrings
abbrev pub initial_piece : ℕ
initial_piece = 128

abbrev pub middle_piece : ℕ
middle_piece = 129

abbrev pub final_piece : ℕ
final_piece = 130

-- the parts of an extensible match
abbrev pub matching_rule : ℕ
matching_rule = 129

abbrev pub match_type : ℕ
match_type = 130

abbrev pub match_value : ℕ
match_value = 131

abbrev pub match_in_names : ℕ
match_in_names = 132

-- ---- responses

abbrev pub bind_response : ℕ
bind_response = 97

abbrev pub search_entry : ℕ
search_entry = 100

abbrev pub search_done : ℕ
search_done = 101

abbrev pub modify_response : ℕ
modify_response = 103

abbrev pub add_response : ℕ
add_response = 105

abbrev pub delete_response : ℕ
delete_response = 107

abbrev pub rename_response : ℕ
rename_response = 109

abbrev pub compare_response : ℕ
compare_response = 111

abbrev pub extended_response : ℕ
extended_response = 120

-- the name in an extended response
abbrev pub response_name : ℕ
response_name = 138
