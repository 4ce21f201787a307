use Rattle.ad_gen.specs.Lines.{line}
use Rattle.ad_bytes.proofs.Appended.{then}
use Rattle.ad_gen.proofs.lines.push_line.Goals as goal

pub returns : goal.returns
unfolding line
returns c = then c.in_ok-push_text.ensures
    (then c.in_ok-push_text-2.ensures (then c.in_ok-push_text-3.ensures c.in_ok-push_text-4.ensures))
