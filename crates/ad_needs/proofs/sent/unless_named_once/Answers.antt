use Rattle.std.proofs.Common.{◌∙◌, ◌+◌, ℕ, List, take, subst, sym, arith}
use Rattle.ad_needs.specs.ItemWords.{AreSent}
use Rattle.ad_needs.proofs.FirstLaws.{written_back}
use Rattle.ad_needs.proofs.SentLaws.{names_stop, names_more, names_end, sent_more}
use Rattle.ad_needs.proofs.sent.unless_named_once.Goals as goal

pub returns-then-is_some : goal.returns-then-is_some
returns-then-is_some c =
    names_stop c.args.schema.now c.args.attrs.now c.each.i c.index-attrs-i.result c.unless_new-refusal.result
    (omega (arith, c.each-test.true)) c.index-attrs-i.is
    (sym c.if-is_some.ensures) c.unless_new-refusal.ensures.refusal
    ∙ c.each.invariant.said

pub each-preserved : goal.each-preserved
each-preserved c = record {
  said = sym (names_more c.args.schema.now c.args.attrs.now c.each.i c.index-attrs-i.result
      c.unless_new-refusal.result (omega (arith, c.each-test.true)) c.index-attrs-i.is
      (sym c.if-is_some.ensures) c.unless_new-refusal.ensures.refusal)
      ∙ c.each.invariant.said;
  named = written_back (λ (a : List ℕ × List (List ℕ)). a.0) c.args.schema.now c.unless_new-refusal.new.named
      c.each.named.items c.each.named.len
      (take (c.each.i + 1) c.args.attrs.now) (c.unless_new-refusal.auto.named ∙ c.as_mut_slice.ensures.len)
      (subst (AreSent c.args.schema.now c.unless_new-refusal.new.named)
      (sent_more c.args.attrs.now c.each.i c.index-attrs-i.result c.each-test.true c.index-attrs-i.is)
      c.unless_new-refusal.ensures.named);
}

pub returns : goal.returns
returns c = names_end c.args.schema.now c.args.attrs.now c.each.i (omega (arith, c.each-test.false))
    ∙ c.each.invariant.said
