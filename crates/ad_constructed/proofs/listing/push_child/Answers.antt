use Rattle.std.proofs.Common.{◌≡◌, ◌++◌, ℕ, List, OnOk, subst}
use Rattle.ad_constructed.specs.Names.{all_items}
use Rattle.ad_constructed.proofs.ListedLaws.{child_is}
use Rattle.ad_constructed.proofs.listing.push_child.Goals as goal

pub returns : goal.returns
returns g c =
    subst (λ (piece : List (List ℕ)). OnOk c.push_if.result
    (all_items c.push_if.new.names.items ≡ all_items c.args.names.now.items ++ piece))
    (child_is c.args.schema.now c.args.class.0 (g.R.Rights.view c.args.rights.now) c.args.child.0
    c.class_info-info.result.now c.is_child_listed-listed.result c.as_slice.result.now
    c.class_info-info.ensures.info c.is_child_listed-listed.ensures c.as_slice.ensures)
    c.push_if.ensures
