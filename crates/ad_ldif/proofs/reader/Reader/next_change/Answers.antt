use Rattle.std.proofs.Common.{ap, ◌∙◌}
use Rattle.ad_ldif.specs.Changes.{untold_changes}
use Rattle.ad_ldif.proofs.ChangeLemmas.{none_left}
use Rattle.ad_ldif.proofs.reader.Reader.next_change.Goals as goal

pub returns-in-Err-Memory-clause-end : goal.returns-in-Err-Memory-clause-end
returns-in-Err-Memory-clause-end c =
    let seen = rw c.in_default.is at c.self.view_is in (
      λ e. absurd cc,
      λ none. let never = c.in-Err-Memory.ensures.end (none_left _ (ap untold_changes seen ∙ none))
          in absurd cc,
    )
