use Rattle.ad_frames.proofs.FramesLaws.{one_first, none_first}
use Rattle.ad_frames.proofs.laws.the_frames_one_by_one.Goals as goal

pub returns-clause-first : goal.returns-clause-first
returns-clause-first c = one_first

pub returns-clause-none : goal.returns-clause-none
returns-clause-none c = none_first
