use Rattle.std.proofs.Common.{◌∙◌, [], ◌∷◌, List, ℕ, ap}
use Rattle.ad_dir_model.specs.Shown.{computed}
use Rattle.ad_dir.proofs.NameLaws.{if_ok, name_is}
use Rattle.ad_dir.proofs.shown.named.Goals as goal

pub returns : goal.returns
returns c =
    if_ok c.one.result
    (λ values is. is
    ∙ ap (λ (text : List ℕ). computed c.args.syntax text ∷ [])
    (c.as_slice.ensures.value ∙ c.in_ok-text.ensures.written ∙ name_is c.args.dir.now c.args.number
    c.in_ok-dn_of.field-0.rdns c.in_ok-dn_of.ensures))
    c.one.ensures
