use Rattle.std.proofs.Common.{◌≤◌, length, refl, sym, arith}
use Rattle.std.proofs.lemmas.Result.{err_from_is_err_and}
use Rattle.std.specs.Option.{option_copied}
use Rattle.ad_sddl.specs.Reading.{all_entries}
use Rattle.ad_sddl.proofs.Loops.{entries_more, entries_stop, entries_end}
use Rattle.ad_sddl.proofs.list.read_entries.Goals as goal

pub returns-in_err-read_entry-clause-read : goal.returns-in_err-read_entry-clause-read
returns-in_err-read_entry-clause-read c =
    let p = err_from_is_err_and c.from_residual.result c.from_residual.ensures.1 in
    let i = c.entries.invariant in
    let some : 1 ≤ length c.entries.input = omega (arith, (c.entries-test.ensures.shorter refl)) in
    rw (p.1, p.2) (λ known. entries_stop (option_copied c.args.domain) i.0 c.entries.entries c.entries.input
    c.takes.new.input c.in_err-read_entry.field-0.0 (all_entries (option_copied c.args.domain) c.args.input.now)
    i.1.0 some (sym c.entries-test.ensures.took) c.entries-test.ensures.left (c.in_err-read_entry.ensures.read)
    i.1.1.1)

pub entries-preserved : goal.entries-preserved
entries-preserved c =
    let i = c.entries.invariant in
    rw c.in_ok-push.ensures.ok (entries_more (option_copied c.args.domain) i.0 c.entries.entries c.entries.input
    c.takes.new.input c.in_ok-read_entry.field-0 c.read_entry.new.input (length c.args.input.now)
    (all_entries (option_copied c.args.domain) c.args.input.now) i.1.1.0 i.1.0
    (omega (arith, (c.entries-test.ensures.shorter refl), c.in_ok-read_entry.ensures.left))
    (sym c.entries-test.ensures.took) c.entries-test.ensures.left c.in_ok-read_entry.ensures.read i.1.1.1)

pub returns-clause-read : goal.returns-clause-read
returns-clause-read c =
    let i = c.entries.invariant in
    rw c.entries-test.ensures.left (entries_end (option_copied c.args.domain) i.0 c.entries.entries c.entries.input
    (all_entries (option_copied c.args.domain) c.args.input.now) (sym c.entries-test.ensures.took) i.1.1.1)
