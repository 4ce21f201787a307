use Rattle.ad_frames.specs.Limits.{max_frames}
use Rattle.ad_frames.specs.Frames.{frames_of}
use Rattle.ad_engine_laws.proofs.ReadFrames.{all_of_bytes}
use Rattle.ad_engine_laws.proofs.soundness.frames_that_are_read_are_of_bytes.Goals as goal

pub returns : goal.returns
returns c = λ input fits. all_of_bytes max_frames input (frames_of input)
    (c.the_frames_are_the_longest.ensures.are input fits) fits
