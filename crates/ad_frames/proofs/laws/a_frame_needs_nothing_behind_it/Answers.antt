use Rattle.ad_frames.proofs.Cutting.{frame_front}
use Rattle.ad_frames.proofs.laws.a_frame_needs_nothing_behind_it.Goals as goal

pub returns : goal.returns
returns c = λ bytes rest f e. frame_front bytes rest f e
