use Rattle.std.proofs.Common.{subst}
use Rattle.std.proofs.lemmas.Result.{on_ok_weaker}
use Rattle.ad_bytes.specs.Puts.{Puts}
use Rattle.ad_needs_rules.proofs.Appended.{want_pieces}
use Rattle.ad_bytes.proofs.Appended.{then}
use Rattle.ad_needs_rules.proofs.telling.push_want.Goals as goal

pub returns : goal.returns
returns c = on_ok_weaker c.push_name.result (λ last. (subst (Puts c.args.into.now.items c.push_name.new.into.items)
    (want_pieces c.args.dir.now c.args.want.now c.letters_of.result.now _ c.letters_of.ensures c.as_ref.ensures.value)
    (then c.in_ok-push.ensures (then c.in_ok-push-2.ensures
    (then c.in_ok-push_guid.ensures (then c.in_ok-push-3.ensures last))))).is) c.push_name.ensures
