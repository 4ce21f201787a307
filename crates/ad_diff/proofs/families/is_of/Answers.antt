use Rattle.std.proofs.Common.{sym}
use Rattle.ad_diff.proofs.families.is_of.Goals as goal

pub returns-in-Some : goal.returns-in-Some
returns-in-Some c = λ is. record {
  first = c.in-Some.first;
  there = sym c.in-Some.ensures;
  alike = c.is_alike.ensures is;
}
