use Rattle.ad_dn.specs.Fold.{folded}
use Rattle.ad_dir_table.specs.Hashes.{with_all}
use Rattle.ad_dir_table.proofs.TextLaws.{fewer_chars, text_more, text_done}
use Rattle.ad_dir_table.proofs.hashes.with_text.Goals as goal

pub walk-smaller : goal.walk-smaller
walk-smaller c = fewer_chars c.walk.rest.rest.now c.next.new.self.rest.now c.in-Some.character c.walk.invariant.1
    c.in-Some.ensures.steps.0

pub walk-preserved : goal.walk-preserved
walk-preserved c =
    text_more c.walk.state c.with_char-state.result (with_all c.args.hasher (folded c.args.text.now))
    c.walk.rest.rest.now c.next.new.self.rest.now c.in-Some.character c.walk.invariant.1 c.in-Some.ensures.steps.0
    c.with_char-state.ensures
    c.walk.invariant.0

pub returns-in-None : goal.returns-in-None
returns-in-None c = text_done c.walk.state (with_all c.args.hasher (folded c.args.text.now)) c.walk.rest.rest.now
    c.in-None.ensures.steps.0.0 c.walk.invariant.0
