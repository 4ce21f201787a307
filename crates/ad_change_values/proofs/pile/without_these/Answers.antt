use Rattle.std.proofs.Common.{rules, ap, ◌∙◌}
use Rattle.std.specs.Prelude.{filter}
use Rattle.std.proofs.lemmas.Fn.{filter_same}
use Rattle.ad_change_values.specs.Piles.{not_among}
use Rattle.ad_change_values.proofs.pile.without_these.Goals as goal

pub returns : goal.returns
returns c =
    c.from_vec.ensures
    ∙ (filter_same _ (not_among c.args.gone.now) _ (λ x b f' k. search rules) _ _ c.retain.ensures.filtered
    ∙ ap (filter (not_among c.args.gone.now)) c.in_ok-left.ensures)
