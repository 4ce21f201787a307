use Rattle.std.proofs.Common.{◌≡◌, ℕ, false, List, IfOk, sym, subst, ap, ◌∙◌}
use Rattle.ad_ldap.specs.MessageValue.{search_seen}
use Rattle.ad_search.specs.Search.{done, entries_from}
use Rattle.ad_search.specs.Reads.{found_among}
use Rattle.ad_search.specs.Steps.{entries_among}
use Rattle.ad_search.specs.ReadSteps.{kept, and_then, reads_behind}
use Rattle.ad_search.proofs.ReadsLaws.{keeps_nothing, on_ok, on_ok_too}
use Rattle.ad_search.proofs.AnswerLaws.{answered, read_there, not_there, not_read}
use Rattle.ad_search.proofs.searching.answer_at.Goals as goal

pub returns-in_ok-numbers-in-Some-clause-bytes : goal.returns-in_ok-numbers-in-Some-clause-bytes
returns-in_ok-numbers-in-Some-clause-bytes c =
    let dir = c.args.asking.now.dir.now in
    let token = c.args.asking.now.token.now in
    let search = search_seen c.args.asking.now.search.now in
    let id = c.args.asking.now.id in
    let flags = c.args.asking.now.flags in
    let base = c.args.base.now in
    subst (λ (x : List ℕ). IfOk c.entries.result (λ bytes. bytes.items ≡ x))
    (ap (λ (ns : List ℕ). entries_from id search.size 0 0 false
    (entries_among dir token id search flags base ns))
    c.as_slice.ensures.value
    ∙ answered dir token id search flags base c.in-Some.number c.in_ok-numbers-in-Some.numbers.items
    (rw c.in-Some.is at c.in_ok-number.ensures.found) c.in_ok-numbers-in-Some.ensures.same)
    c.entries.ensures.bytes

pub returns-in_ok-numbers-in-Some-clause-reads : goal.returns-in_ok-numbers-in-Some-clause-reads
returns-in_ok-numbers-in-Some-clause-reads c =
    let dir = c.args.asking.now.dir.now in
    let token = c.args.asking.now.token.now in
    let search = search_seen c.args.asking.now.search.now in
    let id = c.args.asking.now.id in
    let flags = c.args.asking.now.flags in
    let base = c.args.base.now in
    on_ok_too c.entries.result _ _
    (λ is. is ∙ ap (and_then (kept c.args.trace.now))
    (ap (λ (ns : List ℕ). reads_behind dir token id search flags 0 0 (found_among dir token search base ns))
    c.as_slice.ensures.value
    ∙ read_there dir token id search flags base c.in-Some.number c.in_ok-numbers-in-Some.numbers.items
    (rw c.in-Some.is at c.in_ok-number.ensures.found) c.in_ok-numbers-in-Some.ensures.same))
    c.entries.ensures.reads

pub returns-in_ok-name-in-None-clause-bytes : goal.returns-in_ok-name-in-None-clause-bytes
returns-in_ok-name-in-None-clause-bytes c =
    let dir = c.args.asking.now.dir.now in
    let token = c.args.asking.now.token.now in
    let search = search_seen c.args.asking.now.search.now in
    let id = c.args.asking.now.id in
    let flags = c.args.asking.now.flags in
    let base = c.args.base.now in
    subst (λ (x : List ℕ). IfOk c.done.result (λ bytes. bytes.items ≡ x))
    (ap (λ (name : List ℕ). done id 32 name) c.in_ok-name-in-None.ensures
    ∙ not_there dir token id search flags base
    (rw c.in-None.is at c.in_ok-number.ensures.found))
    c.done.ensures

pub returns-in_ok-name-in-None-clause-reads : goal.returns-in_ok-name-in-None-clause-reads
returns-in_ok-name-in-None-clause-reads c =
    let dir = c.args.asking.now.dir.now in
    let token = c.args.asking.now.token.now in
    let search = search_seen c.args.asking.now.search.now in
    let id = c.args.asking.now.id in
    let flags = c.args.asking.now.flags in
    let base = c.args.base.now in
    on_ok c.done.result _
    (sym (keeps_nothing (kept c.args.trace.now))
    ∙ ap (and_then (kept c.args.trace.now)) (not_read dir token id search flags base
    (rw c.in-None.is at c.in_ok-number.ensures.found)))
