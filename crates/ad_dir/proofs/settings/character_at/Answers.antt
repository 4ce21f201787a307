use Rattle.std.proofs.Common.{ℕ, List, sym, ap, subst}
use Rattle.std.specs.Prelude.{chars, slice_get}
use Rattle.std.specs.Str.{IsUtf8}
use Rattle.ad_dir.proofs.ShownLaws.{first_there, first_passed, none_there}
use Rattle.ad_dir.proofs.settings.character_at.Goals as goal

pub walk-init : goal.walk-init
walk-init c = (
  ap (λ (text : List ℕ). slice_get (chars text) c.args.place) c.chars-rest.ensures.rest,
  subst IsUtf8
      (sym c.chars-rest.ensures.rest) c.utf8.text,
)

pub returns-then-left-eq0 : goal.returns-then-left-eq0
returns-then-left-eq0 c = first_there c.walk.rest.rest.now c.next.new.self.rest.now c.args.text.now
    c.in-Some.character c.walk.left c.args.place c.walk.invariant.1 c.in-Some.ensures.steps.0 c.if-left-eq0.true
    c.walk.invariant.0

pub walk-preserved : goal.walk-preserved
walk-preserved c = first_passed c.walk.rest.rest.now c.next.new.self.rest.now c.args.text.now c.in-Some.character
    c.walk.left c.args.place c.walk.invariant.1 c.in-Some.ensures.steps.0 c.if-left-eq0.false c.walk.invariant.0

pub returns-in-None : goal.returns-in-None
returns-in-None c = none_there c.walk.rest.rest.now c.args.text.now c.walk.left c.args.place
    c.in-None.ensures.steps.0.0 c.walk.invariant.0
