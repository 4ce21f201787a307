use Rattle.std.specs.String.{string_bytes}
use Rattle.ad_bytes.specs.Puts.{Puts}
use Rattle.ad_gen.specs.Objects.{units}
use Rattle.ad_gen.proofs.objects.push_units.Given as goal

-- the units so far were put
abbrev pub invariant-loop-i : goal.invariant-loop-i
invariant-loop-i l = Puts (string_bytes l.fn.out) (string_bytes l.out) (units l.i)
