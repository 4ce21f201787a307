use Rattle.cmd_change.proofs.Frames.{frame_put}
use Rattle.cmd_change.proofs.changing.put_frame.Goals as goal

pub returns : goal.returns
returns c =
    frame_put c.args.into.now.items c.extend_from_slice.new.self.items c.extend_from_slice-2.new.self.items
    c.extend_from_slice-3.new.self.items c.args.body.now c.to_be_bytes.result
    c.in_ok-extend_from_slice.ensures.items c.to_be_bytes.ensures
    c.in_ok-extend_from_slice-2.ensures.items c.in_ok-extend_from_slice-3.ensures.items
