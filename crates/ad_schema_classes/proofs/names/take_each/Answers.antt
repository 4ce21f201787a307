use Rattle.std.proofs.Common.{ℕ, ◌≡◌, [], ◌∷◌, sym, ap, ◌∙◌}
use Rattle.std.specs.Hash.DefaultHasher.{write}
use Rattle.ad_schema_classes.proofs.IndexLemmas.{hash_more, hash_end}
use Rattle.ad_schema_classes.proofs.names.take_each.Goals as goal

pub loop-byte-preserved : goal.loop-byte-preserved
loop-byte-preserved c =
    sym (hash_more c.loop-byte.hasher c.write.new.self c.args.name.now c.loop-byte.byte-index c.loop-byte-test.true
    (c.write.ensures ∙ ap (λ (b : ℕ). write c.loop-byte.hasher (b ∷ [])) c.to_ascii_lowercase.ensures.value))
    ∙ c.loop-byte.invariant

pub returns : goal.returns
returns c = sym (hash_end c.loop-byte.hasher c.args.name.now c.loop-byte.byte-index c.loop-byte-test.false)
    ∙ c.loop-byte.invariant
