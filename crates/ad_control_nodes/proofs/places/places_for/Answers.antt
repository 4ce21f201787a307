use Rattle.std.proofs.Common.{sym, subst}
use Rattle.std.specs.Prelude.{nat_eq}
use Rattle.indexmap.specs.IndexMap.{get}
use Rattle.ad_ids.specs.SidValue.{same_sid}
use Rattle.ad_control_nodes.specs.Steps.{IsFound}
use Rattle.ad_control_nodes.proofs.places.places_for.Goals as goal

pub place_for-requires : goal.place_for-requires
place_for-requires c =
    let places = c.args.places.now in
    subst (IsFound (get nat_eq places.objects) (get same_sid places.sids)) (sym c.identity-item.is)
    (c.requires c.loop-identity.identity-index c.identity-item.result c.loop-identity-test.true)
