use Rattle.std.proofs.Common.{refl, arith}
use Rattle.std.proofs.lemmas.List.{length-map}
use Rattle.ad_load_objects.specs.Seen.{draft_seen}
use Rattle.ad_load.proofs.before_inheritance.objects_with.Goals as goal

pub objects_of-requires : goal.objects_of-requires
objects_of-requires c = (
  omega (arith, c.requires.few, length-map c.args.drafts.items.items draft_seen),
  ((c.args.drafts.places, c.requires.indexed), (refl, c.requires.domain)),
)
