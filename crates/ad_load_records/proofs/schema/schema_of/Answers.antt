use Rattle.std.proofs.Common.{Result, List, map, sym, subst, ◌∙◌, arith}
use Rattle.std.proofs.lemmas.Result.{err_from_is_err_and}
use Rattle.ad_bytes.specs.Reading.{GivesUnless}
use Rattle.ad_schema.specs.declared.line.SchemaRecord.{SchemaRecord}
use Rattle.ad_load_records.specs.declared.fault.LoadFault.{LoadFault}
use Rattle.ad_load_records.specs.Faults.{is_memory}
use Rattle.ad_load_records.specs.Seen.{seen}
use Rattle.ad_load_records.proofs.Adding.{one_added, one_refused, added_more, all_are_added, refused, all_done}
use Rattle.ad_load_records.proofs.schema.schema_of.Goals as goal

pub returns-in_err-add_if : goal.returns-in_err-add_if
returns-in_err-add_if c =
    let p = err_from_is_err_and c.from_residual-in_err-add_if.result c.from_residual-in_err-add_if.ensures.1 in
    rw (p.1, p.2) (λ m. refused (map seen c.args.records.now) c.in_err-add_if.field-0.0
    (sym c.loop-one.invariant.added
    ∙ one_refused c.args.records.now c.loop-one.one-index c.one-item.result c.loop-one.builder c.in_err-add_if.field-0.0
    (omega arith) (sym c.one-item.is) (c.in_err-add_if.ensures.added m)))

pub loop-one-preserved : goal.loop-one-preserved
loop-one-preserved c =
    let one = c.one-item.result in
    record {
      added = sym (one_added c.args.records.now c.loop-one.one-index one c.loop-one.builder c.add_if.new.builder
          (omega arith) (sym c.one-item.is) c.in_ok-add_if.ensures.added) ∙ c.loop-one.invariant.added;
      few = omega (
        arith,
        c.loop-one.invariant.few,
        added_more c.loop-one.builder c.add_if.new.builder
            (seen one).line (seen one).kind (seen one).fields c.in_ok-add_if.ensures.added,
      );
    }

pub returns : goal.returns
returns c =
    let added = sym c.loop-one.invariant.added ∙ all_are_added c.args.records.now c.loop-one.one-index
    c.loop-one.builder (omega arith) in
    subst (λ (r : Result (List SchemaRecord) LoadFault). GivesUnless is_memory (λ schema. schema) c.finish.result r)
    (sym (all_done (map seen c.args.records.now) c.loop-one.builder added)) c.finish.ensures
