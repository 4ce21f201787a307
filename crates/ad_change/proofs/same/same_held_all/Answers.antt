use Rattle.std.proofs.Common.{refl}
use Rattle.std.proofs.lemmas.Bool.{false≢true}
use Rattle.ad_dir_objects.specs.Seen.{held_seen}
use Rattle.ad_change.proofs.SameLaws.{same_lengths, same_at, same_more, same_behind}
use Rattle.ad_change.proofs.same.same_held_all.Goals as goal

pub returns-then-a-b : goal.returns-then-a-b
returns-then-a-b c = (
  λ e. absurd (false≢true e),
  λ same.
      absurd (c.if-a-b.true (same_lengths held_seen c.args.a.now c.args.b.now same)),
)

pub returns-then-not-same_held : goal.returns-then-not-same_held
returns-then-not-same_held c = (
  λ e. absurd (false≢true e),
  λ same. c.if-not-same_held.ensures.1
      (same_at held_seen c.each.i c.args.a.now c.args.b.now c.index-a-i.result c.index-b-i.result same
      c.each-test.true c.index-a-i.is c.index-b-i.is),
)

pub each-preserved : goal.each-preserved
each-preserved c = (
  c.each.invariant.0,
  λ rest. c.each.invariant.1
      (same_more held_seen c.each.i c.args.a.now c.args.b.now c.index-a-i.result c.index-b-i.result c.each-test.true
      c.each.invariant.0
      c.index-a-i.is c.index-b-i.is (c.if-not-same_held.ensures.0 refl) rest),
)

pub returns : goal.returns
returns c = (
  λ e. c.each.invariant.1 (same_behind held_seen c.each.i c.args.a.now c.args.b.now c.each-test.false
      c.each.invariant.0),
  λ same. refl,
)
