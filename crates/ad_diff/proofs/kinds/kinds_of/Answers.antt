use Rattle.std.proofs.Common.{List, sym, subst}
use Rattle.ad_ids.specs.SidValue.{SidValue}
use Rattle.ad_diff.specs.Kinds.{AreKinds}
use Rattle.ad_diff.proofs.kinds.kinds_of.Goals as goal

pub join-requires-clause-kinds : goal.join-requires-clause-kinds
join-requires-clause-kinds c = subst (λ (sids : List SidValue). AreKinds sids c.args.parties.now
    c.each.kinds.firsts.items c.each.kinds.of.items) (sym c.as_slice-sids.ensures.keys) c.each.invariant.kinds

pub each-preserved : goal.each-preserved
each-preserved c = record {
  count = c.in_ok-kind.ensures.count;
  kinds = subst (λ (sids : List SidValue). AreKinds sids c.args.parties.now c.join.new.kinds.firsts.items
      c.join.new.kinds.of.items) c.as_slice-sids.ensures.keys c.in_ok-kind.ensures.kinds;
}
