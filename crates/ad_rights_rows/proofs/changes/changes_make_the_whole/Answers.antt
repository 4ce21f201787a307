use Rattle.ad_questions.specs.Requirements.{requirements_seen}
use Rattle.ad_rights.specs.Holding.{listed}
use Rattle.ad_rights_rows.proofs.Changing.{changed}
use Rattle.ad_rights_rows.proofs.changes.changes_make_the_whole.Goals as goal

pub returns : goal.returns
returns c =
    let tokens = c.args.tokens.now in
    changed c.args.dir.now tokens.all.items (listed tokens.holding.holders) (requirements_seen c.args.needed.now)
    (λ number place bit path token at none.
    c.the_own_identifier_counts_at_its_places.ensures c.args.dir.now tokens.all.items tokens.holding number place bit path
    token c.requires.index c.requires.bare at none)
