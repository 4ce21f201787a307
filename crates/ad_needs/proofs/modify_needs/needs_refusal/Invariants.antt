use Rattle.std.proofs.Common.{◌≡◌, take}
use Rattle.ad_needs.specs.ItemWords.{AreNamed}
use Rattle.ad_needs.proofs.ModifyLaws.{said_from}
use Rattle.ad_needs.proofs.ItemLaws.{SoFar}
use Rattle.ad_needs.proofs.modify_needs.needs_refusal.Given as goal

-- nothing is missing so far, what was tried is kept, and the flags are those of the items so far
abbrev pub invariant-each : goal.invariant-each
invariant-each l = record {
  said : said_from l.dir l.token l.number l.decoded.flags l.decoded.items.now l.i
      ≡ said_from l.dir l.token l.number l.decoded.flags l.decoded.items.now 0;
  steps : SoFar l.dir l.token l.number l.decoded.flags l.decoded.items.now l.i l.fn.trace l.trace;
  named : AreNamed l.dir.schema l.named.items (take l.i l.decoded.items.now);
}
