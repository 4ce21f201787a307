use Rattle.std.proofs.Common.{length, sym, ◌∙◌, arith}
use Rattle.std.proofs.lemmas.List.{length-map}
use Rattle.ad_schema_classes.specs.Rows.{aboves}
use Rattle.ad_schema_classes.proofs.HeightLemmas.{height_up}
use Rattle.ad_schema_classes.proofs.heights.note_heights.Goals as goal

pub loop-left-preserved : goal.loop-left-preserved
loop-left-preserved c =
    let long = length-map c.args.links.now (λ link. link.above) in
    record {
      known = c.set_height.ensures (aboves c.args.links.now) c.loop-left.invariant.known c.loop-left.invariant.height
          (omega (arith, long, c.loop-left.invariant.low));
      height = height_up (aboves c.args.links.now) c.loop-left.at c.loop-left.left c.in-Some.above
          c.loop-left.invariant.height c.loop-left-test.true (sym c.above_of.ensures ∙ c.in-Some.is);
      low = omega arith;
    }
