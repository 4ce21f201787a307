use Rattle.std.proofs.Common.{length}
use Rattle.ad_bytes.specs.Numbers.{be_bytes}
use Rattle.ad_engine_answer.specs.Output.{output_frame}
use Rattle.ad_engine_answer.proofs.Framed.{framed}
use Rattle.ad_engine_answer.proofs.framing.output.Goals as goal

pub returns : goal.returns
unfolding output_frame
returns c =
    framed c.args.kind (be_bytes 2 c.args.connection) (be_bytes 4 (length c.args.body.now)) c.args.body.now
    c.in_ok-bytes.bytes.items c.push.new.self.items
    c.put_connection.new.into.items c.put_number.new.into.items c.extend_from_slice.new.self.items
    c.in_ok-bytes.ensures.items
    c.in_ok-push.ensures.items c.in_ok-put_connection.ensures c.in_ok-put_number.ensures
    c.in_ok-extend_from_slice.ensures.items
