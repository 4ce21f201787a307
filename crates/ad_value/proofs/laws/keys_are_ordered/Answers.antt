use Rattle.ad_value.proofs.OrderLaws as order
use Rattle.ad_value.proofs.laws.keys_are_ordered.Goals as goal

pub returns : goal.returns
returns c = record {
  total = order.total;
  equal = λ a b. order.equal_decides a b;
  same = λ a b.
      order.same_key_decides a b;
}
