use Rattle.ad_dir_model.proofs.Moving.{may_move}
use Rattle.ad_dir_model.proofs.changes.a_move_keeps_the_tree.Goals as goal

pub returns : goal.returns
returns c = may_move
