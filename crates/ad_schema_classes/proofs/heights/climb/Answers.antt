use Rattle.std.proofs.Common.{length, sym, refl, ◌∙◌, arith}
use Rattle.ad_schema_classes.specs.Rows.{aboves}
use Rattle.ad_schema_classes.proofs.HeightLemmas.{none_by, known_is, too_high, up_more, height_top, never_top}
use Rattle.ad_schema_classes.proofs.heights.climb.Goals as goal

pub returns-then-height-gt0-clause-none : goal.returns-then-height-gt0-clause-none
returns-then-height-gt0-clause-none c =
    let above = aboves c.args.links.now in
    let known = known_is above c.args.heights.now c.loop-steps.at c.height_at-height.result c.requires.known
    c.height_at-height.ensures c.if-height-gt0.true in
    none_by c.within.result _ _ (λ many. too_high above c.args.class c.loop-steps.steps c.loop-steps.at
    c.height_at-height.result (length c.args.links.now) c.loop-steps.invariant.so_far known c.if-height-gt0.true
    many) c.within.ensures.none

pub loop-steps-preserved : goal.loop-steps-preserved
loop-steps-preserved c = record {
  low = omega arith;
  so_far = up_more (aboves c.args.links.now) c.args.class c.loop-steps.steps c.loop-steps.at c.in-Some.above
      c.loop-steps.invariant.so_far (sym c.above_of.ensures ∙ c.in-Some.is);
}

pub returns-in-None-clause-some : goal.returns-in-None-clause-some
returns-in-None-clause-some c = height_top (aboves c.args.links.now) c.args.class c.loop-steps.steps c.loop-steps.at _
    c.loop-steps.invariant.so_far (sym c.above_of.ensures ∙ c.in-None.is) refl

pub returns-clause-none : goal.returns-clause-none
returns-clause-none c = never_top (aboves c.args.links.now) c.args.class c.loop-steps.steps c.loop-steps.at
    (length c.args.links.now) c.loop-steps.invariant.so_far (omega arith)
