use Rattle.std.proofs.Common.{sym, ◌∙◌}
use Rattle.ad_load_objects.specs.Objects.{is_same_given}
use Rattle.ad_load_objects.specs.Seen.{given_seen}
use Rattle.ad_load_objects.proofs.Names.{any_seen}
use Rattle.ad_load_objects.proofs.kept_values.is_among.Goals as goal

pub returns : goal.returns
returns c = c.any_same.ensures ∙ sym (any_seen
    (is_same_given c.args.single c.args.one.now.attr.0 c.args.one.now.value) given_seen c.args.items.now)
