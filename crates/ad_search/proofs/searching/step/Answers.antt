use Rattle.std.proofs.Common.{ℕ, [], ◌∷◌, length, Option, Some, None, sym, subst, ap, ◌∙◌}
use Rattle.ad_ldap.specs.MessageValue.{search_seen}
use Rattle.ad_entries.specs.Entry.{Entry}
use Rattle.ad_entries.specs.Given.{made_seen}
use Rattle.ad_search.specs.Steps.{entries_among, Steps}
use Rattle.ad_search.specs.ReadSteps.{Counts}
use Rattle.ad_search.proofs.SeenLaws.{one_entry, no_entry}
use Rattle.ad_search.proofs.StepLaws.{steps_none, steps_one}
use Rattle.ad_search.proofs.ReadsLaws.{reads_none, reads_stop, reads_next}
use Rattle.ad_search.proofs.searching.step.Goals as goal

pub returns-in_default-clause-steps : goal.returns-in_default-clause-steps
returns-in_default-clause-steps c =
    let dir = c.args.asking.now.dir.now in
    let token = c.args.asking.now.token.now in
    let search = search_seen c.args.asking.now.search.now in
    let id = c.args.asking.now.id in
    let flags = c.args.asking.now.flags in
    let base = c.args.base.now in
    steps_none id search.size c.args.joined.now (entries_among dir token id search flags base (c.args.number ∷ []))
    (no_entry dir token id search flags base
    c.args.number (rw c.in_default.is at c.in_ok-name.ensures.found))

pub returns-in_default-clause-reads : goal.returns-in_default-clause-reads
returns-in_default-clause-reads c =
    let dir = c.args.asking.now.dir.now in
    let token = c.args.asking.now.token.now in
    let search = search_seen c.args.asking.now.search.now in
    let id = c.args.asking.now.id in
    let flags = c.args.asking.now.flags in
    let base = c.args.base.now in
    reads_none dir token id search flags base c.args.number c.args.joined.now c.args.trace.now
    (rw c.in_default.is at c.in_ok-name.ensures.found)

pub returns-in-Some-2-clause-steps : goal.returns-in-Some-2-clause-steps
returns-in-Some-2-clause-steps c =
    let dir = c.args.asking.now.dir.now in
    let token = c.args.asking.now.token.now in
    let search = search_seen c.args.asking.now.search.now in
    let id = c.args.asking.now.id in
    let flags = c.args.asking.now.flags in
    let base = c.args.base.now in
    let entry = made_seen c.in_ok-made.made in
    steps_one id search.size c.args.joined.now c.join.new.joined (Some c.in-Some-2.code) entry
    (entries_among dir token id search flags base (c.args.number ∷ []))
    (one_entry dir token id search flags base
    c.args.number (rw c.in-Some.is at c.in_ok-name.ensures.found)
    ∙ ap (λ (e : Entry). e ∷ []) (sym c.in_ok-made.ensures.made))
    (subst (λ (code : Option ℕ). Steps id search.size c.args.joined.now (entry ∷ []) c.join.new.joined code)
    c.in-Some-2.is (c.in_ok-code.ensures.steps id))

pub returns-in-Some-2-clause-reads : goal.returns-in-Some-2-clause-reads
returns-in-Some-2-clause-reads c =
    let dir = c.args.asking.now.dir.now in
    let token = c.args.asking.now.token.now in
    let search = search_seen c.args.asking.now.search.now in
    let id = c.args.asking.now.id in
    let flags = c.args.asking.now.flags in
    let base = c.args.base.now in
    let long = length (made_seen c.in_ok-made.made).message in
    reads_stop dir token id search flags base c.args.number c.args.joined.now c.join.new.joined c.args.trace.now
    long c.in-Some-2.code (rw c.in-Some.is at c.in_ok-name.ensures.found)
    (ap (λ (e : Entry). length e.message) c.in_ok-made.ensures.made)
    (subst (Counts search.size c.args.joined.now c.join.new.joined long) c.in-Some-2.is c.in_ok-code.ensures.counts)

pub returns-clause-steps : goal.returns-clause-steps
returns-clause-steps c =
    let dir = c.args.asking.now.dir.now in
    let token = c.args.asking.now.token.now in
    let search = search_seen c.args.asking.now.search.now in
    let id = c.args.asking.now.id in
    let flags = c.args.asking.now.flags in
    let base = c.args.base.now in
    let entry = made_seen c.in_ok-made.made in
    steps_one id search.size c.args.joined.now c.join.new.joined None entry
    (entries_among dir token id search flags base (c.args.number ∷ []))
    (one_entry dir token id search flags base
    c.args.number (rw c.in-Some.is at c.in_ok-name.ensures.found)
    ∙ ap (λ (e : Entry). e ∷ []) (sym c.in_ok-made.ensures.made))
    (subst (λ (code : Option ℕ). Steps id search.size c.args.joined.now (entry ∷ []) c.join.new.joined code)
    c.in_default-2.is (c.in_ok-code.ensures.steps id))

pub returns-clause-reads : goal.returns-clause-reads
returns-clause-reads c =
    let dir = c.args.asking.now.dir.now in
    let token = c.args.asking.now.token.now in
    let search = search_seen c.args.asking.now.search.now in
    let id = c.args.asking.now.id in
    let flags = c.args.asking.now.flags in
    let base = c.args.base.now in
    let long = length (made_seen c.in_ok-made.made).message in
    reads_next dir token id search flags base c.args.number c.args.joined.now c.join.new.joined c.args.trace.now
    c.keep_reads.new.trace long (rw c.in-Some.is at c.in_ok-name.ensures.found)
    (ap (λ (e : Entry). length e.message) c.in_ok-made.ensures.made)
    (subst (Counts search.size c.args.joined.now c.join.new.joined long) c.in_default-2.is
    c.in_ok-code.ensures.counts)
    c.in_ok-keep_reads.ensures.kept
