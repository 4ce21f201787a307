use Rattle.std.proofs.Common.{◌≡◌, take, drop, map}
use Rattle.std.specs.List.{All}
use Rattle.ad_diff_rights.specs.declared.tokens.Party.{Party}
use Rattle.ad_diff_rights.specs.declared.tokens.DiffFault.{DiffFault}
use Rattle.ad_diff_rights.specs.Parties.{IsParty, AreNoParties}
use Rattle.ad_diff_rights.proofs.tokens.parties_of.Given as goal

-- those so far have tokens, and what goes wrong with those that are left goes wrong with all
abbrev pub invariant-loop-principal : goal.invariant-loop-principal
invariant-loop-principal l =
    record {
      both : map (λ (party : Party). party.both) l.parties.items ≡ take l.principal-index l.principals;
      parties : All (IsParty l.before l.after) l.parties.items;
      fault : (fault : DiffFault) → AreNoParties l.before l.after (drop l.principal-index l.principals) fault
          → AreNoParties l.before l.after l.principals fault;
    }
