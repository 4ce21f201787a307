use Rattle.std.specs.Prelude.{encode_utf8_all}
use Rattle.ad_dir_table.specs.Hashes.{with_all}
use Rattle.ad_dir_table.proofs.TextLaws.{char_more, chars_done}
use Rattle.ad_dir_table.proofs.hashes.with_folded.Goals as goal

pub loop-character-preserved : goal.loop-character-preserved
loop-character-preserved c =
    char_more c.loop-character.state c.with_encoded-state.result
    (with_all c.args.hasher (encode_utf8_all c.args.folded.now)) c.args.folded.now
    c.loop-character.character-index c.character-item.result c.loop-character-test.true
    c.character-item.is c.with_encoded-state.ensures c.loop-character.invariant

pub returns : goal.returns
returns c =
    chars_done c.loop-character.state (with_all c.args.hasher (encode_utf8_all c.args.folded.now)) c.args.folded.now
    c.loop-character.character-index c.loop-character-test.false c.loop-character.invariant
