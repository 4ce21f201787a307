use Rattle.std.proofs.Common.{◌≡◌, ◌==◌, true, false, sym, ◌∙◌, arith}
use Rattle.std.proofs.lemmas.Bool.Decides.{nat_tests}
use Rattle.ad_schema_classes.specs.Chains.{contains}
use Rattle.ad_schema_classes.specs.Rows.{aboves}
use Rattle.ad_schema_classes.proofs.ChainLemmas.{chain_starts, any_first, any_more, any_last, any_done}
use Rattle.ad_schema_classes.proofs.chain.is_above.Goals as goal

pub loop-left-init : goal.loop-left-init
loop-left-init c = chain_starts (λ classes. contains classes c.args.superior) c.args.links.now c.args.class

pub returns-then-at-superior : goal.returns-then-at-superior
returns-then-at-superior c =
    let is : (c.loop-left.at == c.args.superior) ≡ true = grind (arith, nat_tests) in
    sym (any_first (λ x. x == c.args.superior) (aboves c.args.links.now) c.loop-left.left c.loop-left.at
    c.loop-left-test.true is) ∙ c.loop-left.invariant

pub loop-left-preserved : goal.loop-left-preserved
loop-left-preserved c =
    let not : (c.loop-left.at == c.args.superior) ≡ false = grind (arith, nat_tests) in
    sym (any_more (λ x. x == c.args.superior) (aboves c.args.links.now) c.loop-left.left c.loop-left.at
    c.in-Some.above c.loop-left-test.true not (sym c.above_of.ensures ∙ c.in-Some.is)) ∙ c.loop-left.invariant

pub returns-in-None : goal.returns-in-None
returns-in-None c =
    let not : (c.loop-left.at == c.args.superior) ≡ false = grind (arith, nat_tests) in
    sym (any_last (λ x. x == c.args.superior) (aboves c.args.links.now) c.loop-left.left c.loop-left.at
    c.loop-left-test.true not (sym c.above_of.ensures ∙ c.in-None.is)) ∙ c.loop-left.invariant

pub returns : goal.returns
returns c = sym (any_done (λ x. x == c.args.superior) (aboves c.args.links.now) c.loop-left.left c.loop-left.at
    (omega arith)) ∙ c.loop-left.invariant
