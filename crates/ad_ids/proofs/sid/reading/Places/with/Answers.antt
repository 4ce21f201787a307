use Rattle.std.proofs.Common.{◌<◌, length, ap, ◌∙◌, arith}
use Rattle.std.proofs.Math.ListN.{length-set}
use Rattle.std.proofs.lemmas.List.{length-take}
use Rattle.ad_ids.proofs.SidLaws.{padded_more}
use Rattle.ad_ids.proofs.sid.reading.Places.with.Goals as goal

pub invariant_of-result : goal.invariant_of-result
invariant_of-result c =
    let lt : c.self.inside.count < 15 = omega (
      arith,
      c.requires,
      ap length c.self.view_is,
      length-take c.self.inside.count c.self.inside.places,
      c.self.invariant.count,
      c.self.invariant.places,
    ) in
    record {
      count = omega arith;
      places = length-set c.self.inside.places c.from.result c.args.number ∙ c.self.invariant.places;
      padded = rw c.from.ensures (padded_more c.self.inside.places c.self.inside.count c.args.number lt
          c.self.invariant.padded);
    }
