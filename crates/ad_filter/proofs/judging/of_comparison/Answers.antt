use Rattle.std.proofs.Common.{◌≡◌, IfOk, subst}
use Rattle.std.specs.Ordering.{nat_cmp}
use Rattle.std.specs.BTreeMap.{get}
use Rattle.ad_filter.specs.declared.outcome.Truth.{Truth}
use Rattle.ad_filter.specs.Filtering.{view_by, known}
use Rattle.ad_filter.specs.Comparing.{says_compared}
use Rattle.ad_filter.proofs.KeptLaws.{is_there, read_at, said_same, same_compared, read_ordered}
use Rattle.ad_filter.proofs.judging.of_comparison.Goals as goal

pub values_at-requires : goal.values_at-requires
values_at-requires g c =
    let readable = known (view_by (g.V.Readable.named c.args.view.now) (g.V.Readable.shown c.args.view.now))
    c.args.name.now in
    is_there (get nat_cmp c.attr_kept.new.kept c.in-Some.attr.0) readable (rw c.in-Some.is at c.in_ok-attr.ensures.kept)

pub compared_if-requires : goal.compared_if-requires
compared_if-requires g c =
    let readable = known (view_by (g.V.Readable.named c.args.view.now) (g.V.Readable.shown c.args.view.now))
    c.args.name.now in
    let read =
    read_at (get nat_cmp c.attr_kept.new.kept c.in-Some.attr.0) c.values_at.result.now readable c.values_at.ensures
    (rw c.in-Some.is at c.in_ok-attr.ensures.kept) in
    read_ordered c.values_at.result.now readable read

pub returns-in-Some-clause-says : goal.returns-in-Some-clause-says
returns-in-Some-clause-says g c =
    let readable = known (view_by (g.V.Readable.named c.args.view.now) (g.V.Readable.shown c.args.view.now))
    c.args.name.now in
    let read =
    read_at (get nat_cmp c.attr_kept.new.kept c.in-Some.attr.0) c.values_at.result.now readable c.values_at.ensures
    (rw c.in-Some.is at c.in_ok-attr.ensures.kept) in
    subst (λ (x : Truth). IfOk c.compared_if.result (λ t. t ≡ x))
    (said_same c.values_at.result.now readable (says_compared c.args.comparison c.args.sent.now)
    (same_compared c.args.comparison c.args.sent.now) read) c.compared_if.ensures
