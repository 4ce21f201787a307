use Rattle.std.proofs.Common.{◌<◌, ◌∙◌, arith}
use Rattle.std.proofs.Math.ListN.{length-set}
use Rattle.ad_ids.proofs.SidLaws.{padded_more}
use Rattle.ad_ids.proofs.sid.Sid.child.Goals as goal

pub invariant_of-result : goal.invariant_of-result
invariant_of-result c =
    let lt : c.self.inside.count < 15 = omega
    (arith, c.self.invariant.at_most_15, c.from.ensures, c.if-from-eq-MAX_SUB_AUTHORITIES.false) in
    record {
      authority = c.self.invariant.authority;
      at_least_one = omega arith;
      at_most_15 = omega arith;
      places = length-set c.self.inside.places c.from-2.result c.args.number ∙ c.self.invariant.places;
      padded = rw c.from-2.ensures (padded_more c.self.inside.places c.self.inside.count c.args.number lt
          c.self.invariant.padded);
    }
