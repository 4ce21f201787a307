use Rattle.std.proofs.Common.{rules, ◌≡◌}
use Rattle.ad_rights_rows.specs.Rows.{own_at}
use Rattle.ad_rights_rows.proofs.Listing.{own_more}
use Rattle.ad_rights_rows.proofs.own.places.Goals as goal

pub loop-place-init : goal.loop-place-init
unfolding own_at
loop-place-init c = search rules

pub loop-place-preserved : goal.loop-place-preserved
loop-place-preserved c = λ number.
    let l = c.loop-place in
    own_more c.args.members.now l.place _ number _ _ c.loop-place-test.true (l.invariant number)
    (c.in_ok-enter.ensures number)
