-- Which bytes encode a filter (RFC 4511 4.5.1.7).
use Rattle.std.specs.Prelude.{◌≡◌, ℕ, ◌≤◌, Bool, List, [], ◌++◌, Option, None}
use Rattle.ad_bytes.specs.Reading.{StartsWith, SpellsEach}
use Rattle.ad_value.specs.declared.pattern.Pattern.{Pattern}
use Rattle.ad_ldap.specs.FilterValue.{FilterValue, FilterList, And, Or, Not, Equal, Pieces, AtLeast, AtMost, Present}
use Rattle.ad_ldap.specs.FilterValue.{Like, Extensible, none, more, depth}
use Rattle.ad_ldap.specs.Elements.{IsEmpty, Tagged, SpellsOctets, SpellsOption, SpellsBoolean, SpellsDefault}
use Rattle.ad_ldap.specs.Tags.{octet_string, sequence, initial_piece, middle_piece, final_piece, matching_rule}
use Rattle.ad_ldap.specs.Tags.{match_type, match_value, match_in_names, and_filter, or_filter, not_filter}
use Rattle.ad_ldap.specs.Tags.{equality_match, substrings, greater_or_equal, less_or_equal, presence}
use Rattle.ad_ldap.specs.Tags.{approximate_match, extensible_match}

-- one part of a text, and then another
pub record Joined (P Q : List ℕ → Type 0) (text : List ℕ) : Type 0 where
  pub front : List ℕ
  pub behind : List ℕ
  pub parts : text ≡ front ++ behind
  pub first : P front
  pub second : Q behind

-- an attribute's name and a value
abbrev pub SpellsAssertion : List ℕ → List ℕ → List ℕ → Type 0
SpellsAssertion attr value text = StartsWith (SpellsOctets octet_string) attr
    (StartsWith (SpellsOctets octet_string) value IsEmpty) text

-- at least one piece is there
abbrev pub HasPieces : Pattern → Type 0
HasPieces p = ¬ ((p.first ≡ None) × (p.middle ≡ []) × (p.last ≡ None))

-- the initial piece, the middle ones and the final one, of which there is one at least
pub record SpellsPieces (p : Pattern) (text : List ℕ) : Type 0 where
  pub some : HasPieces p
  pub text_is : StartsWith (SpellsOption initial_piece) p.first
      (StartsWith (SpellsEach (SpellsOctets middle_piece)) p.middle (SpellsOption final_piece p.last)) text

-- an attribute's name and pieces
abbrev pub SpellsSubstrings : List ℕ → Pattern → List ℕ → Type 0
SpellsSubstrings attr p text = StartsWith (SpellsOctets octet_string) attr
    (λ rest. Joined (Tagged sequence (SpellsPieces p)) IsEmpty rest) text

-- an extensible match: a rule and a type that may be left out, a value, and a truth value that may be left out
pub record SpellsExtensible (text : List ℕ) : Type 0 where
  pub rule : Option (List ℕ)
  pub type : Option (List ℕ)
  pub value : List ℕ
  pub in_names : Bool
  pub text_is : StartsWith (SpellsOption matching_rule) rule
      (StartsWith (SpellsOption match_type) type
      (StartsWith (SpellsOctets match_value) value (SpellsDefault match_in_names in_names))) text

-- Each filter is an element, whose tag says what it is. An and and an or may have no filters.
abbrev mutual
  pub SpellsFilter : FilterValue → List ℕ → Type 0
  SpellsFilter (And fs) text = Tagged and_filter (SpellsFilters fs) text
  SpellsFilter (Or fs) text = Tagged or_filter (SpellsFilters fs) text
  SpellsFilter (Not f) text = Tagged not_filter (SpellsFilter f) text
  SpellsFilter (Equal attr value) text = Tagged equality_match (SpellsAssertion attr value) text
  SpellsFilter (Pieces attr p) text = Tagged substrings (SpellsSubstrings attr p) text
  SpellsFilter (AtLeast attr value) text = Tagged greater_or_equal (SpellsAssertion attr value) text
  SpellsFilter (AtMost attr value) text = Tagged less_or_equal (SpellsAssertion attr value) text
  SpellsFilter (Present attr) text = SpellsOctets presence attr text
  SpellsFilter (Like attr value) text = Tagged approximate_match (SpellsAssertion attr value) text
  SpellsFilter Extensible text = Tagged extensible_match SpellsExtensible text

  pub SpellsFilters : FilterList → List ℕ → Type 0
  SpellsFilters none text = IsEmpty text
  SpellsFilters (more f fs) text = Joined (SpellsFilter f) (SpellsFilters fs) text

-- a filter that is no deeper than this
abbrev pub SpellsWithin : ℕ → FilterValue → List ℕ → Type 0
SpellsWithin levels f text = (depth f ≤ levels) × SpellsFilter f text
