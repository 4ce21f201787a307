use Rattle.std.proofs.Common.{◌≡◌, length}
use Rattle.ad_diff.specs.Kinds.{AreKinds}
use Rattle.ad_diff.proofs.kinds.kinds_of.Given as goal

-- those so far have their kinds
abbrev pub invariant-each : goal.invariant-each
invariant-each l =
    record {
      count : length l.kinds.of.items ≡ l.place;
      kinds : AreKinds l.fn.named.keys l.parties l.kinds.firsts.items l.kinds.of.items;
    }
