use Rattle.ad_gen.specs.Objects.{user}
use Rattle.ad_bytes.proofs.Appended.{then}
use Rattle.ad_gen.proofs.objects.push_user.Goals as goal

pub returns : goal.returns
unfolding user
returns c = then c.in_ok-push_text.ensures
    (then c.in_ok-push_number.ensures (then c.in_ok-push_text-2.ensures
    (then c.in_ok-push_number-2.ensures (then c.in_ok-push_text-3.ensures
    (then c.in_ok-push_number-3.ensures (then c.in_ok-push_text-4.ensures
    (then c.in_ok-push_number-4.ensures c.in_ok-push_text-5.ensures)))))))
