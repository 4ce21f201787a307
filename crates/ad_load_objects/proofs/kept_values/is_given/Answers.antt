use Rattle.std.proofs.Common.{sym, ◌∙◌}
use Rattle.ad_load_objects.specs.Drafts.{is_given}
use Rattle.ad_load_objects.specs.Seen.{given_seen}
use Rattle.ad_load_objects.proofs.Names.{any_seen}
use Rattle.ad_load_objects.proofs.kept_values.is_given.Goals as goal

pub returns : goal.returns
returns c = c.any_given.ensures ∙ sym (any_seen (is_given c.args.attr.0) given_seen c.args.given.now)
