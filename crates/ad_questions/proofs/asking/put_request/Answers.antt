use Rattle.ad_questions.proofs.JudgedLaws.{delete_below}
use Rattle.ad_questions.proofs.asking.put_request.Goals as goal

pub put_delete-requires-clause-below : goal.put_delete-requires-clause-below
put_delete-requires-clause-below c =
    delete_below c.args.dir.now c.args.number c.args.question c.in-Delete.is c.requires.possible
