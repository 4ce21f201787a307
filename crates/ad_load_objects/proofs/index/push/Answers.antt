use Rattle.std.proofs.Common.{arith}
use Rattle.ad_load_objects.proofs.Indexed.{as_many_names}
use Rattle.ad_load_objects.proofs.Identifiers.{sids_pushed}
use Rattle.ad_load_objects.proofs.index.push.Goals as goal

pub push-requires : goal.push-requires
push-requires c = omega (arith, c.requires.few, as_many_names c.args.drafts.now c.requires.indexed)

pub returns-clause-sids : goal.returns-clause-sids
returns-clause-sids c =
    sids_pushed c.args.schema.now c.args.drafts.now.items.items c.push-3.new.self.items c.args.one.draft
    c.args.drafts.now.sids.keys c.note_sid.new.sids.keys c.draft_sid.result
    c.in_ok-push-3.ensures.items c.in_ok-note_sid.ensures c.draft_sid.ensures c.requires.sids
