use Rattle.std.proofs.Common.{◌≡◌, List, Some, sym, ap, subst, ◌∙◌}
use Rattle.std.specs.Prelude.{slice_get}
use Rattle.ad_schema.specs.declared.info.ClassInfo.{ClassInfo}
use Rattle.ad_schema.specs.Classes.{classes_of}
use Rattle.ad_schema.specs.Sound.{MakeSchema}
use Rattle.ad_schema.proofs.SoundLemmas.{above_within, naming_within}
use Rattle.ad_schema.proofs.schema.Schema.class_info.Goals as goal

pub returns-clause-above : goal.returns-clause-above
returns-clause-above c =
    let is = ap (λ (l : List ClassInfo). slice_get l c.args.id.0)
    (sym (c.as_slice.ensures.value ∙ c.self.invariant.infos.classes_are ∙ ap classes_of c.self.view_is))
    ∙ c.class_at.ensures in
    above_within c.args.self.now c.args.id.0 c.class_at.result.now
    (subst MakeSchema c.self.view_is c.self.invariant.schema) is

pub returns-clause-naming : goal.returns-clause-naming
returns-clause-naming c =
    let is = ap (λ (l : List ClassInfo). slice_get l c.args.id.0)
    (sym (c.as_slice.ensures.value ∙ c.self.invariant.infos.classes_are ∙ ap classes_of c.self.view_is))
    ∙ c.class_at.ensures in
    naming_within c.args.self.now c.args.id.0 c.class_at.result.now
    (subst MakeSchema c.self.view_is c.self.invariant.schema) is
