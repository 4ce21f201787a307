use Rattle.std.proofs.Common.{List, true, length, replicate, ap, ◌∙◌}
use Rattle.ad_schema.specs.declared.info.AttrInfo.{AttrInfo}
use Rattle.ad_entries.proofs.asking.all_flags.Goals as goal

pub returns : goal.returns
returns c =
    c.in_ok-flags.ensures.items_if_clones_equal (λ y same. same)
    ∙ ap (λ (infos : List AttrInfo). replicate (length infos) true) c.attrs.ensures
