use Rattle.std.proofs.Common.{◌∙◌, ◌<◌, ℕ, sym, subst, arith}
use Rattle.ad_causes.specs.Extra.{texts}
use Rattle.ad_causes.proofs.CountLemmas.{counted_has}
use Rattle.ad_causes.proofs.counting.is_counted.Goals as goal

pub returns : goal.returns
returns c = counted_has (texts c.args.all.now) c.args.text.now c.count_in.result
    (c.count_in.ensures ∙ c.requires c.args.text.now)
