use Rattle.ad_frames.specs.Limits.{max_frames}
use Rattle.ad_frames.specs.Frames.{frames_of}
use Rattle.ad_frames.proofs.FramesLaws.{are_frames, only_frames}
use Rattle.ad_frames.proofs.laws.the_frames_are_the_longest.Goals as goal

pub returns-clause-are : goal.returns-clause-are
unfolding frames_of
returns-clause-are c = are_frames max_frames

pub returns-clause-only : goal.returns-clause-only
unfolding frames_of
returns-clause-only c = λ bytes fs fits a. only_frames max_frames bytes fs fits a
