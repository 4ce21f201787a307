use Rattle.std.proofs.Common.{sym, ◌∙◌}
use Rattle.ad_dir_objects.specs.Seen.{stored_seen}
use Rattle.ad_change_values.specs.Values.{same_stored}
use Rattle.ad_change_values.proofs.SentLaws.{any_seen}
use Rattle.ad_change_values.proofs.values.is_among.Goals as goal

pub returns : goal.returns
returns c = c.any_same.ensures ∙ sym (any_seen (same_stored (stored_seen c.args.value.now)) stored_seen
    c.args.stored.now)
