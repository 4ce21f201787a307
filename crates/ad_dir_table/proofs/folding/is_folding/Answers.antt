use Rattle.std.specs.Str.{bytes_eq}
use Rattle.ad_dn.specs.Fold.{folded}
use Rattle.ad_dir_table.proofs.TextLaws.{fewer_chars, compared_more, compared_other, compared_all}
use Rattle.ad_dir_table.proofs.folding.is_folding.Goals as goal

pub walk-smaller : goal.walk-smaller
walk-smaller c = fewer_chars c.walk.rest.rest.now c.next.new.self.rest.now c.in-Some.character c.walk.invariant.1
    c.in-Some.ensures.steps.0

pub walk-preserved : goal.walk-preserved
walk-preserved c =
    compared_more c.walk.rest.rest.now c.next.new.self.rest.now c.walk.left.now c.in-Some-past_folded.more.now
    c.in-Some.character (bytes_eq (folded c.args.text.now) c.args.bytes.now) c.walk.invariant.1
    c.in-Some.ensures.steps.0 (c.in-Some-past_folded.ensures (folded c.next.new.self.rest.now)) c.walk.invariant.0

pub returns-in-None-past_folded : goal.returns-in-None-past_folded
returns-in-None-past_folded c =
    compared_other c.walk.rest.rest.now c.next.new.self.rest.now c.walk.left.now c.in-Some.character
    (bytes_eq (folded c.args.text.now) c.args.bytes.now) c.walk.invariant.1
    c.in-Some.ensures.steps.0 (c.in-None-past_folded.ensures (folded c.next.new.self.rest.now)) c.walk.invariant.0

pub returns-in-None : goal.returns-in-None
returns-in-None c =
    compared_all c.walk.rest.rest.now c.walk.left.now c.is_empty.result
    (bytes_eq (folded c.args.text.now) c.args.bytes.now) c.in-None.ensures.steps.0.0 c.is_empty.ensures
    c.walk.invariant.0
