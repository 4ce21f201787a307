use Rattle.ad_acl.specs.EntrySeen.{entry_seen}
use Rattle.ad_sd.specs.Seen.{seen}
use Rattle.ad_sd.specs.View.{to_come}
use Rattle.ad_identities.specs.Identities.{is_for}
use Rattle.ad_identities.proofs.Adding.{together_goes, together_ends}
use Rattle.ad_identities.proofs.told.take_entries.Goals as goal

pub loop-ace-preserved : goal.loop-ace-preserved
loop-ace-preserved c =
    together_goes is_for (entry_seen c.in-Some.ace) c.loop-ace.taken.keys c.take_entry.new.taken.keys
    c.args.taken.now.keys (to_come c.loop-ace.ace-iterator) (to_come c.next.new.self)
    (seen c.args.view).dacl.entries c.in-Some.ensures.steps c.loop-ace.invariant c.in_ok-take_entry.ensures

pub returns : goal.returns
returns c =
    together_ends is_for c.loop-ace.taken.keys c.args.taken.now.keys (to_come c.loop-ace.ace-iterator)
    (seen c.args.view).dacl.entries c.in-None.ensures.steps.0 c.loop-ace.invariant
