use Rattle.std.proofs.Common.{◌∙◌}
use Rattle.std.proofs.lemmas.Result.{err_from_is_err_and}
use Rattle.ad_ldif.proofs.ResultLemmas.{fails_by}
use Rattle.ad_ldif.proofs.RecordLemmas.{one_field, no_field, bad_field}
use Rattle.ad_ldif.proofs.reading.read_fields.Goals as goal

pub returns-in_err-read_field-clause-fields : goal.returns-in_err-read_field-clause-fields
returns-in_err-read_field-clause-fields c =
    let p = err_from_is_err_and c.from_residual-in_err-read_field.result c.from_residual-in_err-read_field.ensures.1 in
    let cut = rw c.in-Some.is at c.in_ok-line.ensures.lines in
    let bad = rw c.bytes.ensures at c.in_err-read_field.ensures in
    rw (p.1, p.2) (fails_by _ _ _ c.loop-line.invariant.fields
    (bad_field _ _ _ _ c.in_err-read_field.field-0.0 cut bad))

pub loop-line-preserved : goal.loop-line-preserved
loop-line-preserved c =
    let cut = rw c.in-Some.is at c.in_ok-line.ensures.lines in
    let read = rw c.bytes.ensures at c.in_ok-read_field.ensures in
    record {
      fields = c.loop-line.invariant.fields ∙ rw c.in_ok-push.ensures.items (one_field _ _ _ _ _ cut read);
      others = c.loop-line.invariant.others ∙ rw c.in-Some.is at c.in_ok-line.ensures.others;
    }

pub returns-clause-fields : goal.returns-clause-fields
returns-clause-fields c =
    let none = rw c.in_default.is at c.in_ok-line.ensures.lines in
    c.loop-line.invariant.fields ∙ no_field _ _ none
