use Rattle.std.proofs.Common.{List, ℕ, OnOk, subst, ◌∙◌}
use Rattle.ad_bytes.specs.Puts.{Puts, spaced}
use Rattle.ad_dsacls.proofs.Appended.{named, unnamed}
use Rattle.ad_dsacls.proofs.words.put_type.Goals as goal

pub returns-in-Some-schema_name : goal.returns-in-Some-schema_name
returns-in-Some-schema_name c =
    subst (λ (t : List ℕ).
    OnOk c.put_spaced-in-Some-schema_name.result
    (Puts c.args.out.now.items c.put_spaced-in-Some-schema_name.new.out.items (spaced t)))
    (named c.args.schema.now c.args.guid.now c.in-Some.guid c.in-Some-schema_name.name.now c.in-Some.is
    c.in-Some-schema_name.ensures)
    c.put_spaced-in-Some-schema_name.ensures

pub returns-in_ok-text-in-None-schema_name : goal.returns-in_ok-text-in-None-schema_name
returns-in_ok-text-in-None-schema_name c =
    subst (λ (t : List ℕ).
    OnOk c.put_spaced-in-None-schema_name.result
    (Puts c.args.out.now.items c.put_spaced-in-None-schema_name.new.out.items (spaced t)))
    (unnamed c.args.schema.now c.args.guid.now c.in-Some.guid c.as_bytes.result.now c.in-Some.is
    c.in-None-schema_name.ensures
    (c.as_bytes.ensures.value ∙ c.in_ok-text-in-None-schema_name.ensures.text))
    c.put_spaced-in-None-schema_name.ensures
