use Rattle.std.proofs.Common.{Some, map, sym, ap, arith}
use Rattle.std.proofs.lemmas.List.{at_drop_all, length-map}
use Rattle.ad_schema.proofs.RecordLemmas.{pushed, ended}
use Rattle.ad_schema_classes.proofs.RowLemmas.{mapped_at}
use Rattle.ad_schema.proofs.FinishLemmas.{infos_more, infos_end}
use Rattle.ad_schema.proofs.classes.all_classes.Goals as goal

pub loop-i-preserved : goal.loop-i-preserved
loop-i-preserved c =
    let here = mapped_at (λ lines. lines.now) c.args.lines.now c.loop-i.i c.index-lines-i.result c.loop-i-test.true
    c.index-lines-i.is in
    let step = infos_more (map (λ link. link.above) c.args.links.now) (map (λ link. link.naming) c.args.links.now)
    c.args.cn c.loop-i.i _ _ _ here in
    let info = rw (c.above_of.ensures, c.naming_of-naming.ensures) at c.in_ok-info.ensures in
    rw c.in_ok-push.ensures.items (pushed _ _ _ _ _ _ c.loop-i.invariant step (ap Some (sym info)))

pub returns : goal.returns
returns c =
    let past = at_drop_all (λ ls. ls) (map (λ lines. lines.now) c.args.lines.now) c.loop-i.i
    (omega (arith, length-map c.args.lines.now (λ lines. lines.now))) in
    ended _ _ _ c.loop-i.invariant (infos_end _ _ _ _ _ past)
