use Rattle.std.proofs.Common.{◌≡◌}
use Rattle.ad_constructed.specs.Listed.{children_below}
use Rattle.ad_constructed.specs.Names.{all_items}
use Rattle.ad_constructed.proofs.listing.children.Given as goal

-- those so far
abbrev pub invariant-each : goal.invariant-each
invariant-each g l = all_items l.names.items ≡ children_below l.schema l.class.0 (g.R.Rights.view l.rights) l.place
