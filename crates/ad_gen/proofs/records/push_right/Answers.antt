use Rattle.ad_gen.specs.Schema.{right}
use Rattle.ad_bytes.proofs.Appended.{then}
use Rattle.ad_gen.proofs.records.push_right.Goals as goal

pub returns : goal.returns
unfolding right
returns c = then c.in_ok-push_named.ensures
    (then c.in_ok-push_line.ensures (then c.in_ok-push_line-2.ensures
    (then c.in_ok-push_line-3.ensures (then c.in_ok-push_line-4.ensures
    (then c.in_ok-push_line-5.ensures c.in_ok-push_text.ensures)))))
