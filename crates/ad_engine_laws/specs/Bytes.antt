-- What holds of each frame that was read: its message is bytes.
use Rattle.std.specs.Prelude.{List}
use Rattle.std.specs.List.{AllByRecursion}
use Rattle.ad_bytes.specs.Reading.{IsBytes}
use Rattle.ad_frames.specs.declared.frame.Frame.{Frame}
use Rattle.ad_frames.specs.declared.frame.FrameBody.{FrameBody}
use Rattle.ad_frames.specs.declared.frame.FrameBody.TheVariants as body

abbrev pub IsOfBytes : FrameBody → Type 0
IsOfBytes (body.Token token) = Unit {0}
IsOfBytes (body.Message bytes) = IsBytes bytes
IsOfBytes (body.Steps n) = Unit {0}
IsOfBytes body.Run = Unit {0}

abbrev pub HasBytes : Frame → Type 0
HasBytes frame = IsOfBytes frame.body

abbrev pub HaveBytes : List Frame → Type 0
HaveBytes frames = AllByRecursion HasBytes frames
