use Rattle.std.proofs.Common.{◌≡◌, ◌∙◌, ◌∷◌, ◌++◌, [], ◌+◌, List, ℕ, drop, get_or, sym, ap, arith}
use Rattle.std.specs.Prelude.{Vec}
use Rattle.std.specs.declared.alloc.Global.{Global}
use Rattle.std.proofs.lemmas.List.{at_drop_more}
use Rattle.ad_causes.specs.Extra.{texts, extra}
use Rattle.ad_causes.proofs.CountLemmas.{finding_more, finding_end}
use Rattle.ad_causes.proofs.counting.extra.Goals as goal

pub loop-text-init : goal.loop-text-init
loop-text-init c = (
  texts c.args.others.now,
  c.in_ok-table.ensures,
  ap (λ (f : List (Vec ℕ Global)). texts f ++ extra (texts c.args.all.now) (texts c.args.others.now))
      (sym c.new-found.ensures.items),
)

pub loop-text-preserved : goal.loop-text-preserved
loop-text-preserved c =
    finding_more (texts c.args.all.now) (texts c.args.others.now) c.loop-text.table c.keep.new.table
    c.loop-text.found.items c.keep.new.found.items c.args.all.now c.loop-text.text-index c.text-item.result
    c.as_slice.result.now c.loop-text-test.true c.text-item.is c.as_slice.ensures.value c.loop-text.invariant
    c.in_ok-keep.ensures

pub returns : goal.returns
returns c =
    finding_end (texts c.args.all.now) (texts c.args.others.now) c.loop-text.table c.loop-text.found.items
    c.args.all.now c.loop-text.text-index (omega (arith, c.loop-text-test.false))
    c.loop-text.invariant
