use Rattle.std.proofs.Common.{map}
use Rattle.ad_load_objects.specs.Seen.{draft_seen}
use Rattle.ad_load.proofs.directory.made_of.Given as goal

abbrev pub ghost-link_all : goal.ghost-link_all
ghost-link_all a = map draft_seen a.drafts.items.items
