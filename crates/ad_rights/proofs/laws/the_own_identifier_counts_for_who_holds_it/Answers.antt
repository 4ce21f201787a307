use Rattle.std.proofs.Common.{None}
use Rattle.ad_rights.proofs.Granting.{apart_alike}
use Rattle.ad_rights.proofs.laws.the_own_identifier_counts_for_who_holds_it.Goals as goal

pub returns : goal.returns
returns c = λ owner dacl token self path bit bare none.
    c.the_own_identifier_counts_by_who_answers_to_it.ensures owner dacl token self None path bit
    (apart_alike token self bare none)
