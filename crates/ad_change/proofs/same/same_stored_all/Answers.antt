use Rattle.std.proofs.Common.{refl}
use Rattle.std.proofs.lemmas.Bool.{false≢true}
use Rattle.ad_dir_objects.specs.Seen.{stored_seen}
use Rattle.ad_change.proofs.SameLaws.{same_lengths, same_at, same_more, same_behind}
use Rattle.ad_change.proofs.same.same_stored_all.Goals as goal

pub returns-then-a-b : goal.returns-then-a-b
returns-then-a-b c = (
  λ e. absurd (false≢true e),
  λ same.
      absurd (c.if-a-b.true (same_lengths stored_seen c.args.a.now c.args.b.now same)),
)

pub returns-then-not-same_stored : goal.returns-then-not-same_stored
returns-then-not-same_stored c = (
  λ e. absurd (false≢true e),
  λ same. c.if-not-same_stored.ensures.1
      (same_at stored_seen c.each.i c.args.a.now c.args.b.now c.index-a-i.result c.index-b-i.result same
      c.each-test.true c.index-a-i.is c.index-b-i.is),
)

pub each-preserved : goal.each-preserved
each-preserved c = (
  c.each.invariant.0,
  λ rest. c.each.invariant.1
      (same_more stored_seen c.each.i c.args.a.now c.args.b.now c.index-a-i.result c.index-b-i.result c.each-test.true
      c.each.invariant.0
      c.index-a-i.is c.index-b-i.is (c.if-not-same_stored.ensures.0 refl) rest),
)

pub returns : goal.returns
returns c = (
  λ e. c.each.invariant.1 (same_behind stored_seen c.each.i c.args.a.now c.args.b.now c.each-test.false
      c.each.invariant.0),
  λ same. refl,
)
