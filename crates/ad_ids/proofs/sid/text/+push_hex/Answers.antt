use Rattle.std.proofs.Common.{◌++◌}
use Rattle.std.specs.String.{string_bytes}
use Rattle.ad_ids.specs.SidText.{hex_digits}
use Rattle.ad_ids.proofs.SidText.{hex_more, where_ok}
use Rattle.ad_ids.proofs.sid.text.+push_hex.Goals as goal

pub returns : goal.returns
returns t c =
    where_ok c.push.result (string_bytes c.push.new.self) _ _
    (string_bytes c.args.text.now ++ hex_digits c.args.count c.args.number) c.push.ensures.bytes
    (rw (c.push.ensures.ascii c.hex_char.ensures.ascii, c.hex_char.ensures.digit)
    (hex_more c.args.count c.args.number (string_bytes c.args.text.now) (string_bytes c.push_hex.new.text)
    c.if-count-eq0.false c.in_ok-push_hex.ensures))
