-- What is seen of a filter that is made of others.
use Rattle.std.proofs.Common.{◌≡◌, List, map, refl, ap, ◌∙◌}
use mathlib.Core.Former.{Count}
use Rattle.ad_ldap.specs.declared.filter.Filter.{Filter, Row_of-Filter, end_of-Filter, more_of-Filter}
use Rattle.ad_ldap.specs.declared.filter.Filter.{items-the_row-Filter, items_hidden-the_row-Filter-0}
use Rattle.ad_ldap.specs.declared.filter.Filter as code
use Rattle.ad_ldap.specs.declared.filter.Filters.{Filters}
use Rattle.ad_ldap.specs.FilterValue.{FilterValue, FilterList, filter_seen, row_seen, filters_seen, filters_of}
use Rattle.ad_ldap.specs.FilterValue as value

row_list : (n : Count) (row : Row_of-Filter n) → row_seen row
    ≡ filters_of (map filter_seen (items-the_row-Filter n row))
row_list n end_of-Filter = refl
row_list n (more_of-Filter f rest) = ap (value.more (filter_seen f)) (row_list _ rest)

abbrev row_of : Filter → (n : Count) × Row_of-Filter n
row_of (code.And' shape row) = (_, row)
row_of (code.Or' shape row) = (_, row)
row_of _ = (_, end_of-Filter)

pub seen_and : (fs : Filters) → filter_seen (code.And fs) ≡ value.And (filters_of (filters_seen fs))
seen_and fs =
    let row = row_of (code.And fs) in
    ap value.And (row_list row.0 row.1 ∙ ap (λ (xs : List Filter). filters_of (map filter_seen xs))
    (items_hidden-the_row-Filter-0 fs.items))

pub seen_or : (fs : Filters) → filter_seen (code.Or fs) ≡ value.Or (filters_of (filters_seen fs))
seen_or fs =
    let row = row_of (code.Or fs) in
    ap value.Or (row_list row.0 row.1 ∙ ap (λ (xs : List Filter). filters_of (map filter_seen xs))
    (items_hidden-the_row-Filter-0 fs.items))
