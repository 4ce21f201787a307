use Rattle.ad_sd.proofs.NormalReader.{spelled_normal, spelled_in}
use Rattle.ad_sd.proofs.normal_sd.NormalSd.of.Goals as goal

pub invariant_of-result : goal.invariant_of-result
invariant_of-result c = rw c.in_ok-new.ensures.ok
    (spelled_normal c.in_ok-normal.field-0.items c.args.sd.now c.in_ok-normal.ensures)

pub returns : goal.returns
returns c = rw c.in_ok-new.ensures.ok (spelled_in c.in_ok-normal.field-0.items c.args.sd.now c.in_ok-normal.ensures)
