use Rattle.std.proofs.Common.{◌≡◌, [], take}
use Rattle.ad_rights_rows.specs.Rows.{AreParties}
use Rattle.ad_rights_rows.specs.Kept.{AreKept}
use Rattle.ad_rights_rows.proofs.parties.put_all.Given as goal

-- those so far
abbrev pub invariant-loop-identity : goal.invariant-loop-identity
invariant-loop-identity l = record {
  kept : AreKept l.dir l.parties;
  added : AreParties l.dir [] l.fn.parties.members.items l.fn.parties.tokens.all.items l.fn.parties.without.items
      → AreParties l.dir (take l.identity-index l.all) l.parties.members.items l.parties.tokens.all.items
      l.parties.without.items;
}
