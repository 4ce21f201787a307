use Rattle.ad_sd.proofs.NormalPlaces.{some_bytes, dacl_mark}
use Rattle.ad_sd.proofs.places.dacl_protected_in.Goals as goal

pub bounds-bytes-0 : goal.bounds-bytes-0
bounds-bytes-0 c = some_bytes c.args.bytes.now c.requires

pub returns : goal.returns
returns c = dacl_mark c.args.bytes.now c.requires
