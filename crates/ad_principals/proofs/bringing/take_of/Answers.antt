use Rattle.std.proofs.lemmas.Result.{on_ok_weaker}
use Rattle.ad_principals.proofs.Steps.{object_taken}
use Rattle.ad_principals.proofs.bringing.take_of.Goals as goal

pub returns : goal.returns
returns c =
    on_ok_weaker c.take_history.result
    (object_taken c.args.dir.now c.args.members.now c.args.number c.groups_of.result.now c.args.taken.now.keys
    c.take_groups.new.taken.keys c.take_history.new.taken.keys c.groups_of.ensures c.in_ok-take_groups.ensures)
    c.take_history.ensures
