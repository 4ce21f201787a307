use Rattle.std.proofs.lemmas.Result.{on_ok_weaker}
use Rattle.ad_bytes.proofs.Appended.{then}
use Rattle.ad_needs_rules.proofs.telling.push_other.Goals as goal

pub returns : goal.returns
returns c = on_ok_weaker c.push_want.result (λ last. (then c.in_ok-push.ensures (record { is = last })).is)
    c.push_want.ensures
