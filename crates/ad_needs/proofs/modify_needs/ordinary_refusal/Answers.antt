use Rattle.std.proofs.Common.{refl, sym, ◌∙◌}
use Rattle.ad_dir_model.proofs.AdminCount.{place_within}
use Rattle.ad_needs.proofs.FirstLaws.{placed}
use Rattle.ad_needs.proofs.modify_needs.ordinary_refusal.Goals as goal

pub attr_refusal-requires-clause-attr : goal.attr_refusal-requires-clause-attr
attr_refusal-requires-clause-attr c =
    place_within c.args.dir.now.schema c.args.name.now c.in-Some.attr.0
    (placed c.args.dir.now.schema c.args.name.now c.args.name.now c.in-Some.attr (sym c.in-Some.is ∙ c.requires.attr)
    refl)
