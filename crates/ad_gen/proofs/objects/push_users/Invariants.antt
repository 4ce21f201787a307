use Rattle.std.specs.String.{string_bytes}
use Rattle.ad_bytes.specs.Puts.{Puts}
use Rattle.ad_gen.specs.Objects.{users}
use Rattle.ad_gen.proofs.objects.push_users.Given as goal

-- the users so far were put
abbrev pub invariant-loop-j : goal.invariant-loop-j
invariant-loop-j l = Puts (string_bytes l.fn.out) (string_bytes l.out) (users l.i l.j)
