use Rattle.ad_gen.specs.Lines.{encoded_line}
use Rattle.ad_bytes.proofs.Appended.{then}
use Rattle.ad_gen.proofs.lines.push_encoded.Goals as goal

pub returns : goal.returns
unfolding encoded_line
returns c = then c.in_ok-push_text.ensures
    (then c.in_ok-push_text-2.ensures (then c.in_ok-push_base64.ensures c.in_ok-push_text-3.ensures))
