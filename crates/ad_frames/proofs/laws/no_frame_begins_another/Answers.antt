use Rattle.ad_bytes.proofs.Many.{spellings_apart}
use Rattle.ad_frames.specs.Frame.{SpellsFrame}
use Rattle.ad_frames.specs.Reading.{frame_at}
use Rattle.ad_frames.proofs.FrameCodec.{frame_reader}
use Rattle.ad_frames.proofs.laws.no_frame_begins_another.Goals as goal

pub returns : goal.returns
returns c = spellings_apart SpellsFrame frame_at frame_reader
