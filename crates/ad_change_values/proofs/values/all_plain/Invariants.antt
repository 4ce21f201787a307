use Rattle.std.proofs.Common.{◌≡◌, map}
use Rattle.ad_value.specs.Value.{Value}
use Rattle.ad_dir_objects.specs.declared.object.Stored.TheVariants as kept
use Rattle.ad_change_values.proofs.values.all_plain.Given as goal

-- those so far
abbrev pub invariant-loop-value : goal.invariant-loop-value
invariant-loop-value l = l.stored ≡ map (λ (value : Value). kept.Plain value) l.yielded
