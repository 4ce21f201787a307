use Rattle.std.proofs.lemmas.Result.{err_from_is_err_and}
use Rattle.ad_ldif.proofs.StoryLemmas.{no_story, one_told, fault_told}
use Rattle.ad_ldif.proofs.reading.read_next.Goals as goal

pub returns-in_default-clause-told : goal.returns-in_default-clause-told
returns-in_default-clause-told c =
    let none = rw c.in_default.is at c.in_ok-first.ensures.records in
    no_story _ none

pub returns-in_err-read_record-clause-told : goal.returns-in_err-read_record-clause-told
returns-in_err-read_record-clause-told c =
    let p = err_from_is_err_and c.from_residual-in_err-read_record.result c.from_residual-in_err-read_record.ensures.1
    in
    let cut = rw c.in-Some.is at c.in_ok-first.ensures.records in
    rw (p.1, p.2) (fault_told _ _ _ c.in_err-read_record.field-0.0 _ cut c.in_err-read_record.ensures.entry)

pub returns-clause-told : goal.returns-clause-told
returns-clause-told c =
    let cut = rw c.in-Some.is at c.in_ok-first.ensures.records in
    one_told _ _ _ _ _ cut c.in_ok-read_record.ensures.entry c.in_ok-read_record.ensures.others
