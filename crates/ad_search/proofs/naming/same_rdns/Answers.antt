use Rattle.std.proofs.Common.{Bool, ◌+◌, ◌&&◌, drop, sym, ap, ◌∙◌, arith}
use Rattle.ad_search.specs.Scope.{same_rdns}
use Rattle.ad_search.proofs.NameLaws.{other_length, next_part, no_part}
use Rattle.ad_search.proofs.naming.same_rdns.Goals as goal

pub returns-then-a-b : goal.returns-then-a-b
returns-then-a-b c = sym (other_length c.args.a.now c.args.b.now c.if-a-b.true)

pub returns-then-not-same_part : goal.returns-then-not-same_part
returns-then-not-same_part c =
    ap (λ (same : Bool). same && same_rdns (drop (c.each.i + 1) c.args.a.now) (drop (c.each.i + 1) c.args.b.now))
    c.if-not-same_part.ensures
    ∙ sym (next_part c.args.a.now c.args.b.now c.each.i c.index-a-i.result c.index-b-i.result c.each-test.true
    (omega (arith, c.each-test.true, c.each.invariant.0)) c.index-a-i.is c.index-b-i.is)
    ∙ c.each.invariant.1

pub each-preserved : goal.each-preserved
each-preserved c = (
  c.each.invariant.0,
  ap (λ (same : Bool). same && same_rdns (drop (c.each.i + 1) c.args.a.now) (drop (c.each.i + 1) c.args.b.now))
      c.if-not-same_part.ensures
      ∙ sym (next_part c.args.a.now c.args.b.now c.each.i c.index-a-i.result c.index-b-i.result c.each-test.true
      (omega (arith, c.each-test.true, c.each.invariant.0)) c.index-a-i.is c.index-b-i.is)
      ∙ c.each.invariant.1,
)

pub returns : goal.returns
returns c =
    sym (no_part c.args.a.now c.args.b.now c.each.i (omega (arith, c.each-test.false))
    (omega (arith, c.each-test.false, c.each.invariant.0)))
    ∙ c.each.invariant.1
