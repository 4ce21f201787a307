use Rattle.std.proofs.Common.{map, sym, ◌∙◌, arith}
use Rattle.ad_schema_classes.specs.Chains.{first_along}
use Rattle.ad_schema_classes.specs.Rows.{aboves}
use Rattle.ad_schema_classes.proofs.ChainLemmas.{chain_starts, along_first, along_more, along_last, along_done}
use Rattle.ad_schema_classes.proofs.chain.naming_along.Goals as goal

pub loop-left-init : goal.loop-left-init
loop-left-init c = chain_starts (first_along (map (λ link. link.naming) c.args.links.now)) c.args.links.now c.args.class

pub returns-in-Some : goal.returns-in-Some
returns-in-Some c = sym (along_first (map (λ link. link.naming) c.args.links.now) (aboves c.args.links.now)
    c.loop-left.left c.loop-left.at c.in-Some.naming c.loop-left-test.true (sym c.naming_in.ensures ∙ c.in-Some.is))
    ∙ c.loop-left.invariant

pub loop-left-preserved : goal.loop-left-preserved
loop-left-preserved c = sym (along_more (map (λ link. link.naming) c.args.links.now) (aboves c.args.links.now)
    c.loop-left.left c.loop-left.at c.in-Some-above_of.above c.loop-left-test.true
    (sym c.naming_in.ensures ∙ c.in_default.is) (sym c.above_of.ensures ∙ c.in-Some-above_of.is))
    ∙ c.loop-left.invariant

pub returns-in-None : goal.returns-in-None
returns-in-None c = sym (along_last (map (λ link. link.naming) c.args.links.now) (aboves c.args.links.now)
    c.loop-left.left c.loop-left.at c.loop-left-test.true (sym c.naming_in.ensures ∙ c.in_default.is)
    (sym c.above_of.ensures ∙ c.in-None.is)) ∙ c.loop-left.invariant

pub returns : goal.returns
returns c = sym (along_done (map (λ link. link.naming) c.args.links.now) (aboves c.args.links.now) c.loop-left.left
    c.loop-left.at (omega arith)) ∙ c.loop-left.invariant
