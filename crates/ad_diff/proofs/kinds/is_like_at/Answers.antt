use Rattle.std.proofs.Common.{sym}
use Rattle.ad_diff.proofs.kinds.is_like_at.Goals as goal

pub returns-in-Some : goal.returns-in-Some
returns-in-Some c = λ is. record {
  other = c.in-Some.other.now;
  there = sym c.in-Some.ensures;
  like = c.is_like.ensures is;
}
