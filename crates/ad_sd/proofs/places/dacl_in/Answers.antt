use Rattle.std.proofs.Common.{◌∙◌}
use Rattle.ad_sd.specs.SdIn.{sd_in}
use Rattle.ad_sd.proofs.NormalPlaces.{list_begins, list_is}
use Rattle.ad_sd.proofs.places.dacl_in.Goals as goal

pub entries_at-requires : goal.entries_at-requires
entries_at-requires c = let l = c.lists_in-dacl.ensures in list_begins c.lists_in-dacl.result.now
    (sd_in c.args.bytes.now).dacl.entries l.after l.dacl

pub returns : goal.returns
returns c = let l = c.lists_in-dacl.ensures in c.entries_at.ensures ∙ list_is c.lists_in-dacl.result.now
    (sd_in c.args.bytes.now).dacl.entries l.after l.dacl
