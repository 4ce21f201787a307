use Rattle.std.proofs.Common.{◌∙◌, ℕ, List, ap}
use Rattle.ad_diff.specs.Frames.{all_bares}
use Rattle.ad_diff.proofs.Contexts.{bases_are}
use Rattle.ad_diff.proofs.context.comparison_context.Goals as goal

pub returns-clause-bases : goal.returns-clause-bases
returns-clause-bases c = bases_are c.args.sides.now c.in_ok-named.named.keys c.args.firsts.now
    c.in_ok-kinds.kinds.firsts.items (record { rows = c.in_ok-rows.rows; kinds = c.in_ok-kinds.kinds.of })
    c.requires.parties c.in_ok-named.ensures
    (c.in_ok-rows.ensures ∙ ap (λ (places : List ℕ). all_bares c.args.sides.now places c.args.firsts.now)
    c.as_slice.ensures.value)
    c.in_ok-kinds.ensures.count c.in_ok-kinds.ensures.kinds
