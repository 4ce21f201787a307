use Rattle.std.proofs.Common.{◌≡◌, IfOk, subst}
use Rattle.std.specs.Ordering.{nat_cmp}
use Rattle.std.specs.BTreeMap.{get}
use Rattle.ad_filter.specs.declared.outcome.Truth.{Truth}
use Rattle.ad_filter.specs.Filtering.{view_by, known, says_pieces}
use Rattle.ad_filter.proofs.KeptLaws.{is_there, read_at, said_same, same_pieces}
use Rattle.ad_filter.proofs.judging.of_pieces.Goals as goal

pub values_at-requires : goal.values_at-requires
values_at-requires g c =
    let readable = known (view_by (g.V.Readable.named c.args.view.now) (g.V.Readable.shown c.args.view.now))
    c.args.name.now in
    is_there (get nat_cmp c.attr_kept.new.kept c.in-Some.attr.0) readable (rw c.in-Some.is at c.in_ok-attr.ensures.kept)

pub returns-in-Some-clause-says : goal.returns-in-Some-clause-says
returns-in-Some-clause-says g c =
    let readable = known (view_by (g.V.Readable.named c.args.view.now) (g.V.Readable.shown c.args.view.now))
    c.args.name.now in
    let read =
    read_at (get nat_cmp c.attr_kept.new.kept c.in-Some.attr.0) c.values_at.result.now readable c.values_at.ensures
    (rw c.in-Some.is at c.in_ok-attr.ensures.kept) in
    subst (λ (x : Truth). IfOk c.fitting_if.result (λ t. t ≡ x))
    (said_same c.values_at.result.now readable (says_pieces c.args.sent.now) (same_pieces c.args.sent.now) read)
    c.fitting_if.ensures
