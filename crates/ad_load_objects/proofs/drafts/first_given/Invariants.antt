use Rattle.std.proofs.Common.{◌≡◌, map, drop}
use Rattle.ad_load_objects.specs.Drafts.{first_given}
use Rattle.ad_load_objects.specs.Seen.{given_seen}
use Rattle.ad_load_objects.proofs.drafts.first_given.Given as goal

-- none so far is of the attribute
abbrev pub invariant-loop-one : goal.invariant-loop-one
invariant-loop-one l = first_given (map given_seen (drop l.one-index l.given)) l.attr.0
    ≡ first_given (map given_seen l.given) l.attr.0
