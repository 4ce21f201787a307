use Rattle.std.proofs.Common.{◌∙◌}
use Rattle.std.specs.Ordering.{nat_cmp}
use Rattle.std.specs.BTreeMap.{get}
use Rattle.ad_filter.specs.Filtering.{view_by, known, says_present}
use Rattle.ad_filter.proofs.KeptLaws.{is_there, read_at, said_same, same_present}
use Rattle.ad_filter.proofs.judging.of_presence.Goals as goal

pub values_at-requires : goal.values_at-requires
values_at-requires g c =
    let readable = known (view_by (g.V.Readable.named c.args.view.now) (g.V.Readable.shown c.args.view.now))
    c.args.name.now in
    is_there (get nat_cmp c.attr_kept.new.kept c.in-Some.attr.0) readable (rw c.in-Some.is at c.in_ok-attr.ensures.kept)

pub returns-in-Some-clause-says : goal.returns-in-Some-clause-says
returns-in-Some-clause-says g c =
    let readable = known (view_by (g.V.Readable.named c.args.view.now) (g.V.Readable.shown c.args.view.now))
    c.args.name.now in
    let read =
    read_at (get nat_cmp c.attr_kept.new.kept c.in-Some.attr.0) c.values_at.result.now readable c.values_at.ensures
    (rw c.in-Some.is at c.in_ok-attr.ensures.kept) in
    c.present_if.ensures ∙ said_same c.values_at.result.now readable says_present same_present read
