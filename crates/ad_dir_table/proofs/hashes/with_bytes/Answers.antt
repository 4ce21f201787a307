use Rattle.ad_dir_table.specs.Hashes.{with_all}
use Rattle.ad_dir_table.proofs.TextLaws.{byte_more, bytes_done}
use Rattle.ad_dir_table.proofs.hashes.with_bytes.Goals as goal

pub loop-byte-preserved : goal.loop-byte-preserved
loop-byte-preserved c =
    byte_more c.loop-byte.state c.write_u8.new.self (with_all c.args.hasher c.args.bytes.now) c.args.bytes.now
    c.loop-byte.byte-index 0 c.loop-byte-test.true c.write_u8.ensures c.loop-byte.invariant

pub returns : goal.returns
returns c = bytes_done c.loop-byte.state (with_all c.args.hasher c.args.bytes.now) c.args.bytes.now
    c.loop-byte.byte-index c.loop-byte-test.false c.loop-byte.invariant
