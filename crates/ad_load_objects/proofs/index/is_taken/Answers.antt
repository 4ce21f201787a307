use Rattle.std.proofs.Common.{ℕ, Option, is_some, ap, ◌∙◌, arith}
use Rattle.ad_schema_classes.specs.declared.names.Case.TheVariants.{Kept}
use Rattle.ad_schema_classes.specs.Hashes.{place_by}
use Rattle.ad_load_objects.specs.Index.{drafts_seen}
use Rattle.ad_load_objects.proofs.Indexed.{taken_by_index}
use Rattle.ad_load_objects.proofs.index.is_taken.Goals as goal

pub returns : goal.returns
returns c = λ parent name within key.
    c.is_some.ensures
    ∙ ap (λ (o : Option ℕ). is_some o) (c.find.ensures ∙ ap (place_by Kept c.args.drafts.now.places) key)
    ∙ taken_by_index (drafts_seen c.args.drafts.now) c.args.drafts.now.names c.args.drafts.now.places parent
    name c.requires.indexed (omega (arith, within))
