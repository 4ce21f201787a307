-- What the lines of an object gave so far, as the code has it.
use Rattle.std.specs.Prelude.{option_map}
use Rattle.ad_load_objects.specs.declared.values.DraftValues.{DraftValues as HeldValues}
use Rattle.ad_load_objects.specs.Objects.{DraftValues}

abbrev pub kept_seen : HeldValues → DraftValues
kept_seen k = record { given = k.given; sd = option_map (λ sd. sd.value) k.sd }
