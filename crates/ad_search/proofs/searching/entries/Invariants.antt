use Rattle.std.proofs.Common.{◌≡◌, false, drop}
use Rattle.ad_ldap.specs.MessageValue.{search_seen}
use Rattle.ad_search.specs.Search.{entries_from}
use Rattle.ad_entries.specs.Judged.{AreKinds}
use Rattle.ad_search.specs.Parents.{IsKept}
use Rattle.ad_search.specs.Steps.{entries_among, with_rest}
use Rattle.ad_search.specs.ReadSteps.{kept}
use Rattle.ad_search.proofs.ReadsLaws.{SoFar}
use Rattle.ad_search.proofs.searching.entries.Given as goal

-- what is joined so far and the entries that are left are all, and so is what was tried
abbrev pub invariant-each : goal.invariant-each
invariant-each l =
    let dir = l.asking.dir.now in
    let token = l.asking.token.now in
    let search = search_seen l.asking.search.now in
    let id = l.asking.id in
    record {
      joined : with_rest id search.size l.joined (entries_among dir token id search l.asking.flags l.base
          (drop l.number-index l.numbers))
          ≡ entries_from id search.size 0 0 false (entries_among dir token id search l.asking.flags l.base l.numbers);
      reads : SoFar dir token id search l.asking.flags l.base l.numbers l.number-index (kept l.fn.trace) l.joined
          l.trace;
      kinds : AreKinds dir token search l.kinds;
      seen : IsKept dir token l.last;
    }
