use Rattle.std.proofs.Common.{List, ℕ, take, subst}
use Rattle.ad_causes.specs.Extra.{texts}
use Rattle.ad_causes.specs.Counts.{AreCounts}
use Rattle.ad_causes.proofs.CountLemmas.{counts_more, texts_more}
use Rattle.ad_causes.proofs.counting.counts_of.Goals as goal

pub loop-text-preserved : goal.loop-text-preserved
loop-text-preserved c =
    subst (λ (all : List (List ℕ)). AreCounts all c.add.new.table)
    (texts_more c.args.all.now c.loop-text.text-index c.text-item.result c.as_slice.result.now c.loop-text-test.true
    c.text-item.is c.as_slice.ensures.value)
    (counts_more c.loop-text.table c.add.new.table (texts (take c.loop-text.text-index c.args.all.now))
    c.as_slice.result.now c.loop-text.invariant c.in_ok-add.ensures)
