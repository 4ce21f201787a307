use Rattle.std.proofs.Common.{map}
use Rattle.ad_load_objects.specs.Seen.{draft_seen}
use Rattle.ad_load.proofs.before_inheritance.objects_with.Given as goal

abbrev pub ghost-objects_of : goal.ghost-objects_of
ghost-objects_of a = map draft_seen a.items.items
