use Rattle.std.proofs.Common.{◌∙◌}
use Rattle.ad_sd.specs.SdIn.{sd_in}
use Rattle.ad_sd.proofs.NormalPlaces.{sid_read, sid_is}
use Rattle.ad_sd.proofs.places.owner_in.Goals as goal

pub first_sid-requires : goal.first_sid-requires
first_sid-requires c = let p = c.parts_in.ensures in sid_read c.parts_in.result.now (sd_in c.args.bytes.now).owner
    p.after_owner p.owner

pub returns : goal.returns
returns c = let p = c.parts_in.ensures in c.first_sid.ensures ∙ sid_is c.parts_in.result.now
    (sd_in c.args.bytes.now).owner p.after_owner p.owner
