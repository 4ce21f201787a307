use Rattle.std.specs.String.{string_bytes}
use Rattle.ad_gen.specs.Objects.{users}
use Rattle.ad_bytes.proofs.Appended.{then, nothing}
use Rattle.ad_gen.proofs.Counted.{users_more}
use Rattle.ad_gen.proofs.objects.push_users.Goals as goal

pub loop-j-init : goal.loop-j-init
unfolding users
loop-j-init c = nothing (string_bytes c.args.out.now)

pub loop-j-preserved : goal.loop-j-preserved
loop-j-preserved c = rw (users_more c.args.i c.loop-j.j) (then c.loop-j.invariant c.in_ok-push_user.ensures)
