use Rattle.ad_schema_classes.proofs.IndexLemmas.{hash_eight}
use Rattle.ad_schema_classes.proofs.names.take_eight.Goals as goal

pub returns : goal.returns
returns c =
    hash_eight c.args.hasher.now c.write.new.self c.args.name.now c.args.at _ _ _ _ _ _ _ _ c.requires c.write.ensures
    c.to_ascii_lowercase.ensures.value c.to_ascii_lowercase-2.ensures.value c.to_ascii_lowercase-3.ensures.value
    c.to_ascii_lowercase-4.ensures.value c.to_ascii_lowercase-5.ensures.value c.to_ascii_lowercase-6.ensures.value
    c.to_ascii_lowercase-7.ensures.value c.to_ascii_lowercase-8.ensures.value
