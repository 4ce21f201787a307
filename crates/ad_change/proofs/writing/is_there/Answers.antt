use Rattle.std.proofs.lemmas.Bool.{false≢true}
use Rattle.ad_change.proofs.SameLaws.{other_there, same_there}
use Rattle.ad_change.proofs.writing.is_there.Goals as goal

pub returns-then-is_another : goal.returns-then-is_another
returns-then-is_another c = λ sd spelled. (
  λ t. absurd (false≢true t),
  λ same. absurd (other_there c.args.dir.now c.args.object.now sd c.args.object.now.number c.is_another.result
      (c.is_another.ensures sd spelled) c.if-is_another.true same),
)

pub returns : goal.returns
returns c = λ sd spelled.
    same_there c.args.dir.now c.live_object.result.now c.args.object.now sd c.args.object.now.number
    c.is_another.result c.same_object.result
    c.live_object.ensures (c.is_another.ensures sd spelled) c.if-is_another.false (c.same_object.ensures sd)
