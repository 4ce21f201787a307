use Rattle.std.proofs.Common.{◌≡◌, ℕ, Bool, ◌+◌, false, List, [], ◌++◌, length, drop, Option, IfOk, subst, ap, ◌∙◌}
use Rattle.std.proofs.Common.{arith}
use Rattle.ad_ldap.specs.MessageValue.{search_seen}
use Rattle.ad_entries.specs.Entry.{Entry}
use Rattle.ad_search.specs.declared.joining.Joined.{Joined}
use Rattle.ad_search.specs.Search.{done, entries_from}
use Rattle.ad_search.specs.Steps.{entries_among, with_rest, goes_on}
use Rattle.ad_search.specs.Reads.{found_among}
use Rattle.ad_search.specs.ReadSteps.{kept, and_then, reads_behind, kept_behind}
use Rattle.ad_search.proofs.StepLaws.{goes_to, comes_to_end}
use Rattle.ad_search.proofs.ReadsLaws.{none_yet, reads_to, reads_to_end, on_ok}
use Rattle.ad_search.proofs.searching.entries.Goals as goal

none_joined : (id size : ℕ) (joined : Joined) (entries : List Entry) → joined.bytes.items ≡ [] → joined.given ≡ 0
    → joined.is_short ≡ false → with_rest id size joined entries ≡ entries_from id size 0 0 false entries
none_joined id size joined entries bytes given short =
    ap (λ (xs : List ℕ). xs ++ entries_from id size joined.given (length xs) joined.is_short entries) bytes
    ∙ ap (λ (n : ℕ). entries_from id size n 0 joined.is_short entries) given
    ∙ ap (λ (b : Bool). entries_from id size 0 0 b entries) short

pub each-init : goal.each-init
each-init c =
    let dir = c.args.asking.now.dir.now in
    let token = c.args.asking.now.token.now in
    let search = search_seen c.args.asking.now.search.now in
    let id = c.args.asking.now.id in
    let flags = c.args.asking.now.flags in
    let base = c.args.base.now in
    record {
      joined = none_joined id search.size c.new-joined.result
          (entries_among dir token id search flags base c.args.numbers.now)
          c.new-joined.ensures.bytes c.new-joined.ensures.given c.new-joined.ensures.short;
      reads = none_yet dir token id search flags base c.args.numbers.now c.new-joined.result c.args.trace.now
          c.new-joined.ensures.bytes c.new-joined.ensures.given;
      kinds = c.in_ok-kinds.ensures;
      seen = c.no_parent-last.ensures token;
    }

pub returns-in-Some-clause-bytes : goal.returns-in-Some-clause-bytes
returns-in-Some-clause-bytes c =
    let dir = c.args.asking.now.dir.now in
    let token = c.args.asking.now.token.now in
    let search = search_seen c.args.asking.now.search.now in
    let id = c.args.asking.now.id in
    let flags = c.args.asking.now.flags in
    let base = c.args.base.now in
    let entries = entries_among dir token id search flags base in
    let whole = entries_from id search.size 0 0 false (entries c.args.numbers.now) in
    subst (λ (x : List ℕ). IfOk c.ended.result (λ bytes. bytes.items ≡ x))
    (subst (λ (code : Option ℕ). goes_on id search.size c.step.new.joined code
    (entries (drop (c.each.number-index + 1) c.args.numbers.now)) ≡ whole) c.in-Some.is
    (goes_to dir token id search flags base c.args.numbers.now
    c.each.number-index search.size c.each.joined c.step.new.joined c.in_ok-stop.stop whole
    c.each-test.true c.in_ok-stop.ensures.steps c.each.invariant.joined))
    c.ended.ensures

pub returns-in-Some-clause-reads : goal.returns-in-Some-clause-reads
returns-in-Some-clause-reads c =
    let dir = c.args.asking.now.dir.now in
    let token = c.args.asking.now.token.now in
    let search = search_seen c.args.asking.now.search.now in
    let id = c.args.asking.now.id in
    let flags = c.args.asking.now.flags in
    let base = c.args.base.now in
    let reads = reads_behind dir token id search flags in
    on_ok c.ended.result _
    (subst (λ (code : Option ℕ). kept_behind dir token id search flags c.step.new.joined code (kept c.step.new.trace)
    (found_among dir token search base (drop (c.each.number-index + 1) c.args.numbers.now))
    ≡ and_then (kept c.args.trace.now) (reads 0 0 (found_among dir token search base c.args.numbers.now)))
    c.in-Some.is
    (reads_to dir token id search flags base c.args.numbers.now c.each.number-index (kept c.args.trace.now)
    c.each.joined c.step.new.joined c.each.trace c.step.new.trace c.in_ok-stop.stop
    c.each-test.true c.in_ok-stop.ensures.reads c.each.invariant.reads))

pub each-preserved : goal.each-preserved
each-preserved c =
    let dir = c.args.asking.now.dir.now in
    let token = c.args.asking.now.token.now in
    let search = search_seen c.args.asking.now.search.now in
    let id = c.args.asking.now.id in
    let flags = c.args.asking.now.flags in
    let base = c.args.base.now in
    let entries = entries_among dir token id search flags base in
    let reads = reads_behind dir token id search flags in
    let whole = entries_from id search.size 0 0 false (entries c.args.numbers.now) in
    record {
      joined = subst (λ (code : Option ℕ). goes_on id search.size c.step.new.joined code
          (entries (drop (c.each.number-index + 1) c.args.numbers.now)) ≡ whole) c.in_default.is
          (goes_to dir token id search flags base c.args.numbers.now
          c.each.number-index search.size c.each.joined c.step.new.joined c.in_ok-stop.stop whole
          c.each-test.true c.in_ok-stop.ensures.steps c.each.invariant.joined);
      reads = subst (λ (code : Option ℕ). kept_behind dir token id search flags c.step.new.joined code
          (kept c.step.new.trace)
          (found_among dir token search base (drop (c.each.number-index + 1) c.args.numbers.now))
          ≡ and_then (kept c.args.trace.now) (reads 0 0 (found_among dir token search base c.args.numbers.now)))
          c.in_default.is
          (reads_to dir token id search flags base c.args.numbers.now c.each.number-index (kept c.args.trace.now)
          c.each.joined c.step.new.joined c.each.trace c.step.new.trace c.in_ok-stop.stop
          c.each-test.true c.in_ok-stop.ensures.reads c.each.invariant.reads);
      kinds = c.in_ok-stop.ensures.kinds;
      seen = c.step.ensures.kept;
    }

pub returns-clause-bytes : goal.returns-clause-bytes
returns-clause-bytes c =
    let dir = c.args.asking.now.dir.now in
    let token = c.args.asking.now.token.now in
    let search = search_seen c.args.asking.now.search.now in
    let id = c.args.asking.now.id in
    let flags = c.args.asking.now.flags in
    let base = c.args.base.now in
    let entries = entries_among dir token id search flags base in
    let whole = entries_from id search.size 0 0 false (entries c.args.numbers.now) in
    subst (λ (x : List ℕ). IfOk c.ended-2.result (λ bytes. bytes.items ≡ x))
    (ap (λ (code : ℕ). c.each.joined.bytes.items ++ done id code []) c.end_code-code.ensures
    ∙ comes_to_end dir token id search flags base c.args.numbers.now
    c.each.number-index search.size c.each.joined whole
    (omega (arith, c.each-test.false)) c.each.invariant.joined)
    c.ended-2.ensures

pub returns-clause-reads : goal.returns-clause-reads
returns-clause-reads c =
    let dir = c.args.asking.now.dir.now in
    let token = c.args.asking.now.token.now in
    let search = search_seen c.args.asking.now.search.now in
    let id = c.args.asking.now.id in
    let flags = c.args.asking.now.flags in
    let base = c.args.base.now in
    on_ok c.ended-2.result _
    (reads_to_end dir token id search flags base c.args.numbers.now c.each.number-index (kept c.args.trace.now)
    c.each.joined c.each.trace (omega (arith, c.each-test.false)) c.each.invariant.reads)
