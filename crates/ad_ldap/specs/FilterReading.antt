-- How a filter is read, with the fault that stands first.
use Rattle.std.specs.Prelude.{ℕ, zero, suc, ◌-◌, ◌==◌, not, nat_eq, List, [], ◌∷◌, length, Option, None, Some, Result}
use Rattle.std.specs.Prelude.{Ok, Err, if◌then◌else◌}
use Rattle.ad_bytes.specs.Reading.{Reading, ◌>>=◌, need}
use Rattle.ad_value.specs.declared.pattern.Pattern.{Pattern}
use Rattle.ad_ldap.specs.declared.fault.LdapFault.{LdapFault}
use Rattle.ad_ldap.specs.declared.fault.LdapFault.TheVariants as fault
use Rattle.ad_ldap.specs.declared.filter_reading.FilterKind.{FilterKind}
use Rattle.ad_ldap.specs.declared.filter_reading.FilterKind.TheVariants as kind
use Rattle.ad_ldap.specs.FilterValue.{FilterValue, filters_of, And, Or, Not, Equal, Pieces, AtLeast, AtMost, Present}
use Rattle.ad_ldap.specs.FilterValue.{Like, Extensible}
use Rattle.ad_ldap.specs.Reading.{form, begins, ok_or, body_at, ended, some, option_at, default_at, inside_at, each_of}
use Rattle.ad_ldap.specs.Tags.{octet_string, middle_piece, initial_piece, final_piece, sequence, matching_rule}
use Rattle.ad_ldap.specs.Tags.{match_type, match_value, match_in_names, and_filter, or_filter, not_filter}
use Rattle.ad_ldap.specs.Tags.{equality_match, substrings, greater_or_equal, less_or_equal, presence}
use Rattle.ad_ldap.specs.Tags.{approximate_match, extensible_match}

-- ---- the parts of an item

unfoldable pub assertion_of : ℕ → List ℕ → Result (List ℕ × List ℕ) LdapFault
assertion_of end bytes = do
  attr ← body_at octet_string end bytes
  value ← body_at octet_string end attr.1
  _ ← ended end value.1
  Ok (attr.0, value.0)

-- the pieces with this tag that stand here, at most n
unfoldable pub middle_within : ℕ → ℕ → List ℕ → Reading (List (List ℕ)) LdapFault
middle_within zero end bytes = Ok ([], bytes)
middle_within (suc n) end bytes =
    if begins middle_piece bytes then (body_at middle_piece end bytes >>= λ first.
    middle_within n end first.1 >>= λ others. Ok (first.0 ∷ others.0, others.1))
    else Ok ([], bytes)

unfoldable pub middle_of : ℕ → List ℕ → Reading (List (List ℕ)) LdapFault
middle_of end bytes = middle_within (length bytes) end bytes

unfoldable pub pieces_of : ℕ → List ℕ → Result Pattern LdapFault
pieces_of end bytes = do
  _ ← some end bytes
  first ← option_at initial_piece end bytes
  middle ← middle_of end first.1
  last ← option_at final_piece end middle.1
  _ ← ended end last.1
  Ok (record { first = first.0; middle = middle.0; last = last.0 })

unfoldable pub substrings_of : ℕ → List ℕ → Result (List ℕ × Pattern) LdapFault
substrings_of end bytes = do
  attr ← body_at octet_string end bytes
  pieces ← inside_at sequence pieces_of end attr.1
  _ ← ended end pieces.1
  Ok (attr.0, pieces.0)

-- an octet string with this tag, where one begins here, is passed over
unfoldable pub passed_at : ℕ → ℕ → List ℕ → Reading (Unit {0}) LdapFault
passed_at tag end bytes = if begins tag bytes then (body_at tag end bytes >>= λ body. Ok (tt, body.1))
    else Ok (tt, bytes)

unfoldable pub extensible_of : ℕ → List ℕ → Result (Unit {0}) LdapFault
extensible_of end bytes = do
  rule ← passed_at matching_rule end bytes
  type ← passed_at match_type end rule.1
  value ← body_at match_value end type.1
  in_names ← default_at match_in_names end value.1
  ended end in_names.1

-- ---- the filter

-- what begins with this tag
abbrev pub kind_by_tag : ℕ → Option FilterKind
kind_by_tag tag =
    if nat_eq tag and_filter then Some kind.And
    else if nat_eq tag or_filter then Some kind.Or
    else if nat_eq tag not_filter then Some kind.Not
    else if nat_eq tag equality_match then Some kind.Equal
    else if nat_eq tag substrings then Some kind.Pieces
    else if nat_eq tag greater_or_equal then Some kind.AtLeast
    else if nat_eq tag less_or_equal then Some kind.AtMost
    else if nat_eq tag presence then Some kind.Present
    else if nat_eq tag approximate_match then Some kind.Like
    else if nat_eq tag extensible_match then Some kind.Extensible
    else None

-- which kind of filter begins here
unfoldable pub kind_at : ℕ → List ℕ → Result FilterKind LdapFault
kind_at end [] = Err (form end [])
kind_at end (tag ∷ bytes) = ok_or (form end (tag ∷ bytes)) (kind_by_tag tag)

-- a filter that is one alone
unfoldable pub alone_of : (ℕ → List ℕ → Reading FilterValue LdapFault) → ℕ → List ℕ → Result FilterValue LdapFault
alone_of inner end bytes = do
  f ← inner end bytes
  _ ← ended end f.1
  Ok f.0

-- a filter of this kind, which has no inner filters
unfoldable pub item_of : FilterKind → ℕ → List ℕ → Reading FilterValue LdapFault
item_of kind.Equal end bytes = do
  x ← inside_at equality_match assertion_of end bytes
  Ok (Equal x.0.0 x.0.1, x.1)
item_of kind.Pieces end bytes = do
  x ← inside_at substrings substrings_of end bytes
  Ok (Pieces x.0.0 x.0.1, x.1)
item_of kind.AtLeast end bytes = do
  x ← inside_at greater_or_equal assertion_of end bytes
  Ok (AtLeast x.0.0 x.0.1, x.1)
item_of kind.AtMost end bytes = do
  x ← inside_at less_or_equal assertion_of end bytes
  Ok (AtMost x.0.0 x.0.1, x.1)
item_of kind.Present end bytes = do
  attr ← body_at presence end bytes
  Ok (Present attr.0, attr.1)
item_of kind.Like end bytes = do
  x ← inside_at approximate_match assertion_of end bytes
  Ok (Like x.0.0 x.0.1, x.1)
item_of _ end bytes = do
  x ← inside_at extensible_match extensible_of end bytes
  Ok (Extensible, x.1)

-- a filter of this kind, whose inner filters are read so
unfoldable pub filter_of : (ℕ → List ℕ → Reading FilterValue LdapFault) → FilterKind → ℕ → List ℕ
    → Reading FilterValue LdapFault
filter_of inner kind.And end bytes = do
  fs ← inside_at and_filter (each_of inner) end bytes
  Ok (And (filters_of fs.0), fs.1)
filter_of inner kind.Or end bytes = do
  fs ← inside_at or_filter (each_of inner) end bytes
  Ok (Or (filters_of fs.0), fs.1)
filter_of inner kind.Not end bytes = do
  f ← inside_at not_filter (alone_of inner) end bytes
  Ok (Not f.0, f.1)
filter_of inner other end bytes = item_of other end bytes

-- a filter that has at most so many levels
unfoldable pub filter_at : ℕ → ℕ → List ℕ → Reading FilterValue LdapFault
filter_at zero end bytes = do
  which ← kind_at end bytes
  Err fault.Deep
filter_at (suc levels) end bytes = do
  which ← kind_at end bytes
  filter_of (filter_at levels) which end bytes
