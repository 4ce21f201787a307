-- What is true of the numbers and lists of every message that has an encoding.
use Rattle.std.specs.Prelude.{◌≡◌, ◌<◌, ◌≤◌, []}
use Rattle.std.specs.List.{AllByRecursion}
use Rattle.ad_ldap.specs.FilterValue.{depth}
use Rattle.ad_ldap.specs.Limits.{most_levels, most_int}
use Rattle.ad_ldap.specs.MessageValue.{OpValue, SearchOf, ModifyOf, AddOf, MessageValue}
use Rattle.ad_ldap.specs.Choices.{whole_subtree, replace_values}

-- a search's scope, size limit and filter, a modify's operations, and that an add's attributes have values
abbrev pub HasOpRanges : OpValue → Type 0
HasOpRanges (SearchOf s) = (s.scope ≤ whole_subtree) × (s.size ≤ most_int) × (depth s.filter ≤ most_levels)
HasOpRanges (ModifyOf m) = AllByRecursion (λ item. item.op ≤ replace_values) m.items
HasOpRanges (AddOf a) = AllByRecursion (λ attr. attr.1 ≡ [] → ⊥) a.attrs
HasOpRanges _ = Unit {0}

abbrev pub HasRanges : MessageValue → Type 0
HasRanges m = (0 < m.id) × (m.id ≤ most_int) × HasOpRanges m.op
