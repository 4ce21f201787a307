use Rattle.std.proofs.Common.{◌≡◌, ◌++◌, ◌∷◌, [], length, map, sym, ap, ◌∙◌, arith}
use Rattle.std.proofs.lemmas.List.{map-append}
use Rattle.std.proofs.lemmas.Result.{err_from_is_err_and}
use Rattle.ad_ldif.specs.Records.{entry_of}
use Rattle.ad_ldif.specs.Story.{Story, untold}
use Rattle.ad_load_records.specs.Prefixed.{prefixed}
use Rattle.ad_load_records.specs.Records.{all_of, record_of}
use Rattle.ad_load_records.specs.Seen.{seen}
use Rattle.ad_load_records.proofs.Prefixed.{prefixed_one, prefixed_fault, prefixed_end, prefixed_stop}
use Rattle.ad_load_records.proofs.Reading.{more_told, none_told, stop_told}
use Rattle.ad_load_records.proofs.records.read_one.Goals as goal

pub returns-in-Ok-None-clause-end : goal.returns-in-Ok-None-clause-end
returns-in-Ok-None-clause-end c =
    let end = rw c.in-Ok-None.field-0-is at c.in-Ok-None.ensures.told in
    λ e. prefixed_end (map seen c.args.records.now.items) (all_of (untold c.args.reader.now))
    (none_told (untold c.args.reader.now) end)

pub returns-in-Err-clause-fault : goal.returns-in-Err-clause-fault
returns-in-Err-clause-fault c =
    rw c.of_grammar.ensures (λ m. prefixed_stop (map seen c.args.records.now.items)
    (all_of (untold c.args.reader.now)) _ (stop_told (untold c.args.reader.now)
    (untold c.next.new.self) c.in-Err.fault c.in-Err.ensures.told m))

pub returns-in_err-record_of-clause-fault : goal.returns-in_err-record_of-clause-fault
returns-in_err-record_of-clause-fault c =
    let p = err_from_is_err_and c.from_residual.result c.from_residual.ensures.1 in
    let told = rw c.in-Ok-Some.field-0-is at c.in-Ok-Some.ensures.told in
    let front = map seen c.args.records.now.items in
    rw (p.1, p.2) (λ m.
    ap (prefixed front) (more_told (untold c.args.reader.now) (untold c.next.new.self) (entry_of c.in-Ok-Some.entry)
    told)
    ∙ prefixed_fault front (record_of (entry_of c.in-Ok-Some.entry)) c.in_err-record_of.field-0.0
    (all_of (untold c.next.new.self)) (c.in_err-record_of.ensures m))

pub returns-clause-one : goal.returns-clause-one
returns-clause-one c =
    let told = rw c.in-Ok-Some.field-0-is at c.in-Ok-Some.ensures.told in
    let items = c.args.records.now.items in
    let grown : map seen c.push.new.self.items ≡ map seen items ++ seen c.in_ok-record_of.field-0
    ∷ [] = ap (map seen) c.in_ok-push.ensures.items ∙ map-append seen items (c.in_ok-record_of.field-0 ∷ []) in
    λ e. ap (prefixed (map seen items)) (more_told (untold c.args.reader.now) (untold c.next.new.self)
    (entry_of c.in-Ok-Some.entry) told)
    ∙ prefixed_one (map seen items) (record_of (entry_of c.in-Ok-Some.entry)) (seen c.in_ok-record_of.field-0)
    (all_of (untold c.next.new.self)) c.in_ok-record_of.ensures
    ∙ ap (λ xs. prefixed xs (all_of (untold c.next.new.self))) (sym grown)

pub returns-clause-fewer : goal.returns-clause-fewer
returns-clause-fewer c =
    let told = rw c.in-Ok-Some.field-0-is at c.in-Ok-Some.ensures.told in
    λ e. omega (arith, ap (λ (s : Story). length s.records) told)
