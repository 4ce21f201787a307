use Rattle.ad_sd.proofs.NormalPlaces.{list_there, list_readable, list_after}
use Rattle.ad_sd.proofs.places.after_list.Goals as goal

pub read_u64-count-requires : goal.read_u64-count-requires
read_u64-count-requires c = (list_there c.args.bytes.now c.requires).eight

pub tail-entries-requires : goal.tail-entries-requires
tail-entries-requires c = (list_there c.args.bytes.now c.requires).eight

pub after_entries-requires : goal.after_entries-requires
after_entries-requires c = list_readable c.args.bytes.now c.tail-entries.result.now c.read_u64-count.result c.requires
    c.read_u64-count.ensures c.tail-entries.ensures

pub returns : goal.returns
returns c = list_after c.args.bytes.now c.tail-entries.result.now c.after_entries.result.now c.read_u64-count.result
    c.requires c.read_u64-count.ensures c.tail-entries.ensures c.after_entries.ensures
