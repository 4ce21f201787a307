use Rattle.std.proofs.Common.{length, sym, ◌∙◌}
use Rattle.std.proofs.lemmas.List.{length-map}
use Rattle.ad_schema_classes.specs.Rows.{aboves}
use Rattle.ad_schema_classes.proofs.HeightLemmas.{ends_more, endless_starts, endless_more, endless_here, endless_end}
use Rattle.ad_schema_classes.proofs.heights.first_over.Goals as goal

pub loop-i-init : goal.loop-i-init
loop-i-init c = record {
  known = c.requires.known;
  so_far = endless_starts (aboves c.args.links.now) (length c.args.links.now)
      (sym (length-map c.args.links.now (λ link. link.above)));
}

pub returns-in-None-clause-first : goal.returns-in-None-clause-first
returns-in-None-clause-first c =
    sym (endless_here (aboves c.args.links.now) c.loop-i.i (length c.args.links.now) (length c.args.links.now)
    c.loop-i-test.true (sym (length-map c.args.links.now (λ link. link.above))) c.in-None.ensures.none)
    ∙ c.loop-i.invariant.so_far

pub loop-i-preserved : goal.loop-i-preserved
loop-i-preserved c =
    let ends = ends_more (aboves c.args.links.now) c.in-Some.height (length c.args.links.now) c.loop-i.i
    c.in-Some.ensures.some.within c.in-Some.ensures.low.1 in
    record {
      known = c.note_heights.ensures;
      so_far = sym (endless_more (aboves c.args.links.now) c.loop-i.i (length c.args.links.now)
          (length c.args.links.now) c.loop-i-test.true (sym (length-map c.args.links.now (λ link. link.above))) ends)
          ∙ c.loop-i.invariant.so_far;
    }

pub returns-clause-first : goal.returns-clause-first
returns-clause-first c = sym (endless_end (aboves c.args.links.now) c.loop-i.i (length c.args.links.now)
    c.loop-i-test.false) ∙ c.loop-i.invariant.so_far
