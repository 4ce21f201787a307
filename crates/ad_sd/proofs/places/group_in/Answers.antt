use Rattle.std.proofs.Common.{◌∙◌}
use Rattle.ad_sd.specs.SdIn.{sd_in}
use Rattle.ad_sd.proofs.NormalPlaces.{sid_read, sid_is, group_there}
use Rattle.ad_sd.proofs.places.group_in.Goals as goal

pub after_sid-group-requires : goal.after_sid-group-requires
after_sid-group-requires c = let p = c.parts_in.ensures in sid_read c.parts_in.result.now
    (sd_in c.args.bytes.now).owner p.after_owner p.owner

pub first_sid-requires : goal.first_sid-requires
first_sid-requires c = let p = c.parts_in.ensures in sid_read c.after_sid-group.result.now
    (sd_in c.args.bytes.now).group p.after_group
    (group_there (sd_in c.args.bytes.now) c.parts_in.result.now c.after_sid-group.result.now p
    c.after_sid-group.ensures)

pub returns : goal.returns
returns c = let p = c.parts_in.ensures in c.first_sid.ensures ∙ sid_is c.after_sid-group.result.now
    (sd_in c.args.bytes.now).group p.after_group
    (group_there (sd_in c.args.bytes.now) c.parts_in.result.now c.after_sid-group.result.now p
    c.after_sid-group.ensures)
