use Rattle.std.proofs.Common.{◌∙◌, map}
use Rattle.std.specs.Option.{option_copied}
use Rattle.std.proofs.lemmas.List.{length-map}
use Rattle.ad_dir_objects.specs.Seen.{stored_seen}
use Rattle.ad_rows.proofs.Growing.{held_if, some_values}
use Rattle.ad_rows.proofs.attributes.values.Goals as goal

pub returns-clause-good : goal.returns-clause-good
returns-clause-good c =
    let read = c.in_ok-values.values in
    let long = length-map read stored_seen ∙ c.in_ok-values.ensures.count in
    held_if (option_copied c.args.schema) c.args.attr.0 (map stored_seen read) c.in_ok-values.good
    c.is_attribute.result c.both-fits.result
    (some_values c.in_ok-count.count (map stored_seen read) c.if-count-eq0.false long) c.both-fits.ensures
    c.is_attribute.ensures c.in_ok-values.ensures.each
