use Rattle.std.proofs.Common.{refl}
use Rattle.std.proofs.lemmas.Bool.{false≢true}
use Rattle.ad_dir_model.specs.Objects.{parent_at}
use Rattle.ad_dir_objects.specs.Seen.{objects_of}
use Rattle.ad_rows_sound.proofs.Finds.{placed_there, placed_more, placed_nowhere, further_more}
use Rattle.ad_rows_sound.proofs.finding.is_placed.Goals as goal

pub returns-then-at-eq1 : goal.returns-then-at-eq1
returns-then-at-eq1 c = (
  λ _. placed_there (parent_at (objects_of c.args.objects.now)) c.loop.at c.loop.counter c.args.number
      c.loop.invariant.0 c.if-at-eq1.true c.loop-test.true,
  λ _. refl,
)

pub loop-preserved : goal.loop-preserved
loop-preserved c = (
  placed_more (parent_at (objects_of c.args.objects.now)) c.loop.at c.parent_of-at.result c.loop.counter c.args.number
      c.loop.invariant.0 c.if-at-eq1.false c.parent_of-at.ensures,
  further_more (parent_at (objects_of c.args.objects.now)) c.loop.at c.parent_of-at.result c.loop.counter
      c.args.number c.loop.invariant.1 c.if-at-eq1.false c.parent_of-at.ensures,
)

pub returns : goal.returns
returns c = (
  λ t. absurd (false≢true t),
  λ placed. absurd (placed_nowhere (parent_at (objects_of c.args.objects.now)) c.loop.at c.loop.counter c.args.number
      c.loop.invariant.1 c.loop-test.false placed),
)
