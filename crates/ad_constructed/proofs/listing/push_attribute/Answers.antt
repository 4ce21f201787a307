use Rattle.std.proofs.Common.{◌≡◌, ◌++◌, ℕ, List, OnOk, subst}
use Rattle.ad_constructed.specs.Names.{all_items}
use Rattle.ad_constructed.proofs.ListedLaws.{attribute_is}
use Rattle.ad_constructed.proofs.listing.push_attribute.Goals as goal

pub returns : goal.returns
returns g c =
    subst (λ (piece : List (List ℕ)). OnOk c.push_if.result
    (all_items c.push_if.new.names.items ≡ all_items c.args.names.now.items ++ piece))
    (attribute_is c.args.schema.now c.args.class.0 (g.R.Rights.view c.args.rights.now) c.args.attr.0
    c.attr_info-info.result.now c.is_listed-listed.result c.as_slice.result.now
    c.attr_info-info.ensures c.is_listed-listed.ensures c.as_slice.ensures)
    c.push_if.ensures
