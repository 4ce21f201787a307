-- A filter as a value: the code's filters without where they lie in memory.
use Rattle.std.specs.Prelude.{ℕ, suc, max, List, [], ◌∷◌, map}
use Rattle.ad_value.specs.declared.pattern.Pattern.{Pattern}
use Rattle.ad_ldap.specs.declared.filter.Filter.{Filter, Row_of-Filter, end_of-Filter, more_of-Filter}
use Rattle.ad_ldap.specs.declared.filter.Filter as code
use Rattle.ad_ldap.specs.declared.filter.Filters.{Filters}

mutual
  -- A filter (RFC 4511 4.5.1.7). In an item the first part is the attribute's name and the second its value or its
  -- pieces.
  pub data FilterValue : Type 0 where
    And : FilterList → FilterValue
    Or : FilterList → FilterValue
    Not : FilterValue → FilterValue
    Equal : List ℕ → List ℕ → FilterValue
    Pieces : List ℕ → Pattern → FilterValue
    AtLeast : List ℕ → List ℕ → FilterValue
    AtMost : List ℕ → List ℕ → FilterValue
    Present : List ℕ → FilterValue
    Like : List ℕ → List ℕ → FilterValue
    Extensible : FilterValue

  pub data FilterList : Type 0 where
    none : FilterList
    more : FilterValue → FilterList → FilterList

-- the filters of a list
abbrev pub filters_of : List FilterValue → FilterList
filters_of [] = none
filters_of (f ∷ fs) = more f (filters_of fs)

-- a filter without inner filters has depth 1
abbrev mutual
  pub depth : FilterValue → ℕ
  depth (And fs) = suc (depth_of_all fs)
  depth (Or fs) = suc (depth_of_all fs)
  depth (Not f) = suc (depth f)
  depth (Equal a v) = 1
  depth (Pieces a p) = 1
  depth (AtLeast a v) = 1
  depth (AtMost a v) = 1
  depth (Present a) = 1
  depth (Like a v) = 1
  depth Extensible = 1

  pub depth_of_all : FilterList → ℕ
  depth_of_all none = 0
  depth_of_all (more f fs) = max (depth f) (depth_of_all fs)

-- the value of a filter of the code
abbrev mutual
  pub filter_seen : Filter → FilterValue
  filter_seen (code.And' shape row) = And (row_seen row)
  filter_seen (code.Or' shape row) = Or (row_seen row)
  filter_seen (code.Not' p f) = Not (filter_seen f)
  filter_seen (code.Equal a v) = Equal a v
  filter_seen (code.Pieces a p) = Pieces a p
  filter_seen (code.AtLeast a v) = AtLeast a v
  filter_seen (code.AtMost a v) = AtMost a v
  filter_seen (code.Present a) = Present a
  filter_seen (code.Like a v) = Like a v
  filter_seen code.Extensible = Extensible

  pub row_seen : {m : _} → Row_of-Filter m → FilterList
  row_seen end_of-Filter = none
  row_seen (more_of-Filter f rest) = more (filter_seen f) (row_seen rest)

abbrev pub filters_seen : Filters → List FilterValue
filters_seen fs = map filter_seen fs.items.items
