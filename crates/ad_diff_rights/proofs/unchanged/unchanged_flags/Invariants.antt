use Rattle.std.proofs.Common.{◌≡◌, length}
use Rattle.ad_diff_rights.specs.Same.{AreUnchangedParties}
use Rattle.ad_diff_rights.proofs.unchanged.unchanged_flags.Given as goal

-- there is a flag of each so far
abbrev pub invariant-loop-party : goal.invariant-loop-party
invariant-loop-party l =
    record {
      count : length l.flags.items ≡ l.party-index;
      unchanged : AreUnchangedParties l.before l.after l.parties l.flags.items;
    }
