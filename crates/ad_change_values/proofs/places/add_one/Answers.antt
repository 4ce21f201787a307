use Rattle.ad_change_values.specs.Piles.{since_in}
use Rattle.ad_change_values.proofs.PileLaws.{added}
use Rattle.ad_change_values.proofs.places.add_one.Goals as goal

pub returns-clause-index : goal.returns-clause-index
returns-clause-index c =
    (added (since_in c.args.places.now) (since_in c.put_new.new.places) c.args.all.now c.push.new.self c.args.one
    c.in_ok-key.key c.len.result c.requires
    c.in_ok-key.ensures c.len.ensures c.in_ok-push.ensures.ok c.in_ok-put_new.ensures).0

pub returns-clause-added : goal.returns-clause-added
returns-clause-added c =
    (added (since_in c.args.places.now) (since_in c.put_new.new.places) c.args.all.now c.push.new.self c.args.one
    c.in_ok-key.key c.len.result c.requires
    c.in_ok-key.ensures c.len.ensures c.in_ok-push.ensures.ok c.in_ok-put_new.ensures).1
