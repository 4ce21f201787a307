use Rattle.ad_principal_laws.proofs.Served.{frame_agrees}
use Rattle.ad_principal_laws.proofs.answering.other_frames_leave_each_token.Goals as goal

pub returns : goal.returns
returns c = frame_agrees
