use Rattle.ad_gen.specs.Schema.{named}
use Rattle.ad_bytes.proofs.Appended.{then}
use Rattle.ad_gen.proofs.records.push_named.Goals as goal

pub returns : goal.returns
unfolding named
returns c = then c.in_ok-push_text.ensures
    (then c.in_ok-push_text-2.ensures (then c.in_ok-push_text-3.ensures
    (then c.in_ok-push_text-4.ensures c.in_ok-push_text-5.ensures)))
