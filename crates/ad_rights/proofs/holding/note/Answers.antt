use Rattle.std.proofs.Common.{◌≡◌, Some, sym, ap}
use Rattle.std.specs.Prelude.{is_some}
use Rattle.indexmap.specs.IndexMap.{get}
use Rattle.ad_ids.specs.SidValue.{same_sid}
use Rattle.ad_rights.proofs.Holders.{gains_one}
use Rattle.ad_rights.proofs.holding.note.Goals as goal

pub returns-in-Some : goal.returns-in-Some
returns-in-Some c =
    let there : get same_sid c.args.table.now c.args.sid ≡ Some c.in-Some.places.now = sym c.in-Some.ensures.value in
    let written = c.get_mut.follows.holds c.push.new.self in
    gains_one c.args.table.now (c.get_mut.follows.lender c.push.new.self) c.args.sid c.args.place
    c.in-Some.places.now c.push.new.self there c.in_ok-push.ensures.items
    (written.3 (ap is_some there)).0
