use Rattle.std.proofs.Common.{Ok, List, map, sym, ap, subst, ◌∙◌}
use Rattle.std.proofs.lemmas.Result.{err_from_is_err_and}
use Rattle.ad_dir_model.specs.Directory.{Directory}
use Rattle.ad_dir_model.specs.Soundness.{IsSound}
use Rattle.ad_load_records.specs.declared.records.Record.{Record as Held}
use Rattle.ad_load_records.specs.Schema.{schema_of}
use Rattle.ad_load_records.specs.Seen.{seen}
use Rattle.ad_load_records.proofs.Short.{text_short, schema_short}
use Rattle.ad_load.proofs.Whole.{schema_stop, loaded_is}
use Rattle.ad_load.proofs.directory.parts_of.Goals as goal

pub returns-in_err-schema-clause-loaded : goal.returns-in_err-schema-clause-loaded
returns-in_err-schema-clause-loaded c =
    let p = err_from_is_err_and c.from_residual.result c.from_residual.ensures.1 in
    let as_read = ap (λ (rs : List Held). schema_of (map seen rs)) (sym c.as_slice-2.ensures.value) in
    rw (p.1, p.2)
    (λ text read m. schema_stop text (map seen c.args.records.items) c.in_err-schema.field-0.0 read
    (as_read ∙ c.in_err-schema.ensures m))

pub made_of-requires-clause-short : goal.made_of-requires-clause-short
made_of-requires-clause-short c =
    let of_records = ap (λ (rs : List Held). schema_of (map seen rs)) (sym c.as_slice-2.ensures.value)
    ∙ c.in_ok-schema.ensures in
    schema_short (map seen c.args.records.items) c.in_ok-schema.schema
    (text_short c.requires.read.0 (map seen c.args.records.items) c.requires.read.1) of_records

pub returns-in_err-before-clause-loaded : goal.returns-in_err-before-clause-loaded
returns-in_err-before-clause-loaded c =
    let p = err_from_is_err_and c.from_residual-in_err-before.result c.from_residual-in_err-before.ensures.1 in
    let of_records = ap (λ (rs : List Held). schema_of (map seen rs)) (sym c.as_slice-2.ensures.value)
    ∙ c.in_ok-schema.ensures in
    rw (p.1, p.2)
    (λ text read m. loaded_is text (map seen c.args.records.items) c.in_ok-schema.schema read of_records
    ∙ c.in_err-before.ensures.made m)

pub returns-clause-loaded : goal.returns-clause-loaded
returns-clause-loaded c =
    let of_records = ap (λ (rs : List Held). schema_of (map seen rs)) (sym c.as_slice-2.ensures.value)
    ∙ c.in_ok-schema.ensures in
    λ text read. loaded_is text (map seen c.args.records.items) c.in_ok-schema.schema read of_records
    ∙ c.in_ok-before.ensures.made ∙ ap (λ (dir : Directory). Ok dir) (sym c.of.ensures)

pub returns-clause-sound : goal.returns-clause-sound
returns-clause-sound c = subst IsSound (sym c.of.ensures) c.in_ok-before.ensures.sound

pub returns-clause-empty : goal.returns-clause-empty
returns-clause-empty c = ap (λ (dir : Directory). dir.pending) c.of.ensures
