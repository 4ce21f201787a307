use Rattle.ad_ldifmod_laws.proofs.Emitted.{frame_spelled}
use Rattle.ad_ldifmod_laws.proofs.laws.a_message_frame_is_its_message_behind_seven_bytes.Goals as goal

pub returns : goal.returns
returns c = frame_spelled
