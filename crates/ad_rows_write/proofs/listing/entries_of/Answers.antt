use Rattle.std.proofs.Common.{◌∙◌, sym}
use Rattle.ad_rows_write.proofs.InOrderWhole.{taken_more, all_taken}
use Rattle.ad_rows_write.proofs.listing.entries_of.Goals as goal

pub loop-entry-preserved : goal.loop-entry-preserved
loop-entry-preserved c =
    taken_more c.args.queue.now c.loop-entry.i c.in-Some.entry c.loop-entry.entries.items c.push.new.self.items
    (sym c.at.ensures ∙ c.in-Some.is) c.loop-entry.invariant.1 c.in_ok-push.ensures.items

pub returns : goal.returns
returns c = all_taken c.args.queue.now c.loop-entry.i c.loop-entry.entries.items (sym c.at.ensures ∙ c.in_default.is)
    c.loop-entry.invariant.1
