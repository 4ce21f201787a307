use Rattle.std.proofs.Common.{◌∙◌, []}
use Rattle.ad_sd.specs.SdIn.{sd_in}
use Rattle.ad_sd.proofs.NormalPlaces.{list_begins, list_is, sacl_there}
use Rattle.ad_sd.proofs.places.sacl_in.Goals as goal

pub after_list-sacl-requires : goal.after_list-sacl-requires
after_list-sacl-requires c = let l = c.lists_in.ensures in list_begins c.lists_in.result.now
    (sd_in c.args.bytes.now).dacl.entries l.after l.dacl

pub entries_at-requires : goal.entries_at-requires
entries_at-requires c = list_begins c.after_list-sacl.result.now (sd_in c.args.bytes.now).sacl.entries []
    (sacl_there (sd_in c.args.bytes.now) c.lists_in.result.now c.after_list-sacl.result.now c.lists_in.ensures
    c.after_list-sacl.ensures)

pub returns : goal.returns
returns c = c.entries_at.ensures ∙ list_is c.after_list-sacl.result.now (sd_in c.args.bytes.now).sacl.entries []
    (sacl_there (sd_in c.args.bytes.now) c.lists_in.result.now c.after_list-sacl.result.now c.lists_in.ensures
    c.after_list-sacl.ensures)
