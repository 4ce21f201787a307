use Rattle.cmd_store_serve.proofs.FramesOfSample.{frames_are}
use Rattle.cmd_store_serve.proofs.laws.the_frames_of_the_sample.Goals as goal

pub returns : goal.returns
returns c n = frames_are n
