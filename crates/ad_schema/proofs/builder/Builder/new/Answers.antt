use Rattle.ad_schema.proofs.BuilderLemmas.{none_noted}
use Rattle.ad_schema.proofs.SoundLemmas.{none_added}
use Rattle.ad_schema.proofs.builder.Builder.new.Goals as goal

pub invariant_of-result : goal.invariant_of-result
invariant_of-result c = record {
  titles = none_noted _ _ _ _ c.new-records.ensures.items c.new-attrs.ensures c.new-classes.ensures
      c.new-rights.ensures;
  added = none_added _ c.new-records.ensures.items;
}
