use Rattle.std.proofs.Common.{ap, ◌∙◌}
use Rattle.ad_ldif.specs.Story.{untold}
use Rattle.ad_ldif.proofs.StoryLemmas.{nothing_left}
use Rattle.ad_ldif.proofs.reader.Reader.next.Goals as goal

pub returns-in-Err-Memory-clause-end : goal.returns-in-Err-Memory-clause-end
returns-in-Err-Memory-clause-end c =
    let seen = rw c.in_default.is at c.self.view_is in (
      λ e. absurd cc,
      λ none. let never = c.in-Err-Memory.ensures.end (nothing_left _ (ap untold seen ∙ none))
          in absurd cc,
    )
