use Rattle.std.proofs.Common.{◌∙◌, ap, map}
use Rattle.std.specs.String.{string_bytes}
use Rattle.ad_ids.specs.SidOfText.{sid_of_text}
use Rattle.ad_who.specs.Answers.{sids_of}
use Rattle.ad_who.proofs.Sids.{texts_more, texts_wrong, texts_end}
use Rattle.ad_who.proofs.tokens.sids_of.Goals as goal

pub returns-in-None-clause-none : goal.returns-in-None-clause-none
returns-in-None-clause-none c =
    texts_wrong string_bytes c.args.texts.now c.loop-text.text-index c.text-item.result c.loop-text.sids.items
    (sids_of (map string_bytes c.args.texts.now))
    c.loop-text-test.true c.text-item.is (c.in-None.ensures ∙ ap sid_of_text c.as_bytes.ensures.value)
    c.loop-text.invariant

pub loop-text-preserved : goal.loop-text-preserved
loop-text-preserved c =
    texts_more string_bytes c.args.texts.now c.loop-text.text-index c.text-item.result c.loop-text.sids.items
    c.push.new.self.items c.in-Some.sid
    (sids_of (map string_bytes c.args.texts.now)) c.loop-text-test.true c.text-item.is
    (c.in-Some.ensures ∙ ap sid_of_text c.as_bytes.ensures.value)
    c.in_ok-push-in-Some.ensures.items c.loop-text.invariant

pub returns-clause-some : goal.returns-clause-some
returns-clause-some c =
    texts_end string_bytes c.args.texts.now c.loop-text.text-index c.loop-text.sids.items
    (sids_of (map string_bytes c.args.texts.now)) c.loop-text-test.false c.loop-text.invariant
