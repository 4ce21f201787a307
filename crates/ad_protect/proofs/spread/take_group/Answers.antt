use Rattle.std.proofs.lemmas.Result.{on_ok_weaker}
use Rattle.ad_protect.proofs.Spreads.{takes_group}
use Rattle.ad_protect.proofs.spread.take_group.Goals as goal

pub returns : goal.returns
returns c =
    on_ok_weaker c.take_primary.result
    (takes_group c.args.dir.now c.args.group c.args.taken.now.keys c.take_members.new.taken.keys
    c.take_primary.new.taken.keys
    c.requires.sound c.requires.live c.in_ok-take_members.ensures)
    c.take_primary.ensures
