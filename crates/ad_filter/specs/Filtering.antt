-- What a filter says of an object, item by item (RFC 4511 4.5.1.7).
use Rattle.std.specs.Prelude.{ℕ, Bool, true, false, not, ◌&&◌, ◌==◌, codes, is_ok, length, option_and_then}
use Rattle.std.specs.Prelude.{Option, Some, None, Result, Ok, Err, List, [], ◌∷◌, if◌then◌else◌}
use Rattle.std.specs.List.{list_any}
use Rattle.std.specs.declared.cmp.Ordering.{Ordering}
use Rattle.std.specs.declared.cmp.Ordering.TheVariants.{Less, Greater}
use Rattle.ad_schema_classes.specs.Names.{same_name}
use Rattle.ad_schema.specs.declared.info.AttrId.{AttrId}
use Rattle.ad_value.specs.declared.syntax.Syntax.{Syntax}
use Rattle.ad_value.specs.declared.value.Key.{Key}
use Rattle.ad_value.specs.Value.{Value, same_key, key_order}
use Rattle.ad_value.specs.declared.pattern.Pattern.{Pattern}
use Rattle.ad_value.specs.declared.fault.ValueFault.{ValueFault}
use Rattle.ad_value.specs.Syntax.{has_order}
use Rattle.ad_value.specs.ValueOf.{normal_or_fault}
use Rattle.ad_value.specs.Pieces.{fits_key}
use Rattle.ad_value.specs.Sent.{pattern_of}
use Rattle.ad_ldap.specs.FilterValue.{FilterValue, FilterList, none, more}
use Rattle.ad_ldap.specs.FilterValue as filter
use Rattle.ad_filter.specs.declared.outcome.Truth.{Truth}
use Rattle.ad_filter.specs.declared.outcome.Truth.TheVariants as truth'
use Rattle.ad_filter.specs.ThreeValues.{both, either, opposite, truth_of}

-- an attribute that may be read: its syntax, and what the object shows of it
pub record Readable : Type 0 where
  pub syntax : Syntax
  pub values : List Value

-- What may be read of an object, by the names of attributes: none of an unknown attribute and of one that may not be
-- read.
abbrev pub View : Type 0
View = List ℕ → Option Readable

-- the same by the attributes of names, and what may be read of each attribute
abbrev pub view_by : (List ℕ → Option AttrId) → (AttrId → Option Readable) → View
view_by named shown name = option_and_then shown (named name)

-- ---- one item

-- A value is compared where its syntax reads what it shows. A computed value that it doesn't read is present, and
-- nothing else.
abbrev pub is_compared : Syntax → Value → Bool
is_compared syntax v = is_ok (normal_or_fault syntax v.shown)

-- some value passes the test
abbrev pub some_value : Readable → (Key → Bool) → Truth
some_value readable test = truth_of (list_any (λ v. is_compared readable.syntax v && test v.key) readable.values)

-- the descriptor is no attribute of a filter
abbrev pub is_descriptor : List ℕ → Bool
is_descriptor name = same_name name (codes "nTSecurityDescriptor")

-- the attribute of the name, where it may be read
unfoldable pub known : View → List ℕ → Option Readable
known view name = if is_descriptor name then None else view name

unfoldable pub attr_known : (List ℕ → Option AttrId) → List ℕ → Option AttrId
attr_known named name = if is_descriptor name then None else named name

-- what is said of an attribute that may be read; of any other nothing
abbrev pub of_known : Option Readable → (Readable → Truth) → Truth
of_known None says = truth'.Undefined
of_known (Some readable) says = says readable

abbrev pub of_readable : View → List ℕ → (Readable → Truth) → Truth
of_readable view name says = of_known (known view name) says

-- what is said of the key of a value that was sent; of one that the syntax doesn't read nothing
abbrev pub of_sent : Result Value ValueFault → (Key → Truth) → Truth
of_sent (Ok v) says = says v.key
of_sent (Err fault) says = truth'.Undefined

-- the same of pieces
abbrev pub of_pieces : Option Pattern → (Pattern → Truth) → Truth
of_pieces (Some pattern) says = says pattern
of_pieces None says = truth'.Undefined

abbrev pub is_less : Ordering → Bool
is_less Less = true
is_less _ = false

abbrev pub is_greater : Ordering → Bool
is_greater Greater = true
is_greater _ = false

abbrev pub says_equal : List ℕ → Readable → Truth
says_equal sent readable = of_sent (normal_or_fault readable.syntax sent)
    (λ key. some_value readable (λ own. same_key own key))

abbrev pub says_ordered : (Ordering → Bool) → List ℕ → Readable → Truth
says_ordered test sent readable =
    if has_order readable.syntax then of_sent (normal_or_fault readable.syntax sent)
    (λ key. some_value readable (λ own. test (key_order own key)))
    else truth'.Undefined

abbrev pub says_pieces : Pattern → Readable → Truth
says_pieces sent readable = of_pieces (pattern_of readable.syntax sent)
    (λ pattern. some_value readable (fits_key pattern))

abbrev pub says_present : Readable → Truth
says_present readable = truth_of (not (length readable.values == 0))

-- ---- a filter

unfoldable mutual
  pub truth : View → FilterValue → Truth
  truth view (filter.And filters) = all_of view filters
  truth view (filter.Or filters) = some_of view filters
  truth view (filter.Not f) = opposite (truth view f)
  truth view (filter.Equal name sent) = of_readable view name (says_equal sent)
  truth view (filter.Pieces name sent) = of_readable view name (says_pieces sent)
  truth view (filter.AtLeast name sent) = of_readable view name (says_ordered (λ order. not (is_less order)) sent)
  truth view (filter.AtMost name sent) = of_readable view name (says_ordered (λ order. not (is_greater order)) sent)
  truth view (filter.Present name) = of_readable view name says_present
  truth view (filter.Like name sent) = of_readable view name (says_equal sent)
  truth view filter.Extensible = truth'.Undefined

  pub all_of : View → FilterList → Truth
  all_of view none = truth'.True
  all_of view (more f filters) = both (truth view f) (all_of view filters)

  pub some_of : View → FilterList → Truth
  some_of view none = truth'.False
  some_of view (more f filters) = either (truth view f) (some_of view filters)

-- what each filter of a list says
unfoldable pub truths : View → FilterList → List Truth
truths view none = []
truths view (more f filters) = truth view f ∷ truths view filters

-- the opposite of each
unfoldable pub nots : FilterList → FilterList
nots none = none
nots (more f filters) = more (filter.Not f) (nots filters)
