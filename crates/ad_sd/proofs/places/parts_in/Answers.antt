use Rattle.ad_sd.proofs.NormalPlaces.{some_bytes, parts_there}
use Rattle.ad_sd.proofs.places.parts_in.Goals as goal

pub tail-requires : goal.tail-requires
tail-requires c = some_bytes c.args.bytes.now c.requires

pub returns : goal.returns
returns c = parts_there c.args.bytes.now c.tail.result.now c.requires c.tail.ensures
