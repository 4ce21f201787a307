use Rattle.ad_sd.specs.SdIn.{sd_in}
use Rattle.ad_sd.proofs.NormalPlaces.{sid_read, group_there, lists_there}
use Rattle.ad_sd.proofs.places.lists_in.Goals as goal

pub after_sid-group-requires : goal.after_sid-group-requires
after_sid-group-requires c = let p = c.parts_in.ensures in sid_read c.parts_in.result.now
    (sd_in c.args.bytes.now).owner p.after_owner p.owner

pub after_sid-requires : goal.after_sid-requires
after_sid-requires c = let p = c.parts_in.ensures in sid_read c.after_sid-group.result.now
    (sd_in c.args.bytes.now).group p.after_group
    (group_there (sd_in c.args.bytes.now) c.parts_in.result.now c.after_sid-group.result.now p
    c.after_sid-group.ensures)

pub returns : goal.returns
returns c = let p = c.parts_in.ensures in lists_there (sd_in c.args.bytes.now) c.after_sid-group.result.now
    c.after_sid.result.now p.after_group p.lists
    (group_there (sd_in c.args.bytes.now) c.parts_in.result.now c.after_sid-group.result.now p
    c.after_sid-group.ensures) c.after_sid.ensures
