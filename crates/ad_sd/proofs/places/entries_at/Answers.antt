use Rattle.std.proofs.Common.{◌∙◌}
use Rattle.ad_sd.proofs.NormalPlaces.{list_there, list_readable, list_entries}
use Rattle.ad_sd.proofs.places.entries_at.Goals as goal

pub read_u64-count-requires : goal.read_u64-count-requires
read_u64-count-requires c = (list_there c.args.bytes.now c.requires).eight

pub tail-entries-requires : goal.tail-entries-requires
tail-entries-requires c = (list_there c.args.bytes.now c.requires).eight

pub of-requires : goal.of-requires
of-requires c = list_readable c.args.bytes.now c.tail-entries.result.now c.read_u64-count.result c.requires
    c.read_u64-count.ensures c.tail-entries.ensures

pub returns : goal.returns
returns c = c.of.ensures ∙ list_entries c.args.bytes.now c.tail-entries.result.now c.read_u64-count.result c.requires
    c.read_u64-count.ensures c.tail-entries.ensures
