-- How a value is compared with one that was sent, by their keys.
use Rattle.std.specs.Prelude.{ℕ, Bool, true, not, ◌&&◌, if◌then◌else◌, List}
use Rattle.std.specs.List.{list_any}
use Rattle.ad_value.specs.declared.syntax.Syntax.{Syntax}
use Rattle.ad_value.specs.declared.value.Key.{Key}
use Rattle.ad_value.specs.Value.{Value, same_key, key_order}
use Rattle.ad_value.specs.Syntax.{has_order}
use Rattle.ad_value.specs.ValueOf.{normal_or_fault}
use Rattle.ad_filter.specs.declared.outcome.Truth.{Truth}
use Rattle.ad_filter.specs.declared.outcome.Truth.TheVariants as truth
use Rattle.ad_filter.specs.declared.comparison.Comparison.{Comparison}
use Rattle.ad_filter.specs.declared.comparison.Comparison.TheVariants as comparison
use Rattle.ad_filter.specs.Filtering.{Readable, is_compared, is_less, is_greater, of_sent, some_value}

abbrev pub passes : Comparison → Key → Key → Bool
passes comparison.Equal sent own = same_key own sent
passes comparison.AtLeast sent own = not (is_less (key_order own sent))
passes comparison.AtMost sent own = not (is_greater (key_order own sent))

-- some value that the syntax reads passes the test
unfoldable pub any_passes : Syntax → (Key → Bool) → List Value → Bool
any_passes syntax test values = list_any (λ v. is_compared syntax v && test v.key) values

-- whether values of the syntax are compared so: each has equality
abbrev pub is_asked_of : Comparison → Syntax → Bool
is_asked_of comparison.Equal syntax = true
is_asked_of comparison.AtLeast syntax = has_order syntax
is_asked_of comparison.AtMost syntax = has_order syntax

-- what is said of an attribute
abbrev pub says_compared : Comparison → List ℕ → Readable → Truth
says_compared comparison sent readable =
    if is_asked_of comparison readable.syntax then of_sent (normal_or_fault readable.syntax sent)
    (λ key. some_value readable (passes comparison key))
    else truth.Undefined
