use Rattle.std.proofs.Common.{map, sym, ◌∙◌, arith}
use Rattle.std.specs.List.{list_any}
use Rattle.ad_schema_classes.specs.Chains.{has_guid}
use Rattle.ad_schema_classes.specs.Rows.{aboves}
use Rattle.ad_schema_classes.proofs.ChainLemmas.{chain_starts, any_first, any_more, any_last, any_done}
use Rattle.ad_schema_classes.proofs.chain.is_a.Goals as goal

pub loop-left-init : goal.loop-left-init
loop-left-init c = chain_starts (list_any (has_guid (map (λ link. link.guid) c.args.links.now) c.args.guid.now))
    c.args.links.now c.args.class

pub returns-then-has_guid : goal.returns-then-has_guid
returns-then-has_guid c =
    sym (any_first (has_guid (map (λ link. link.guid) c.args.links.now) c.args.guid.now) (aboves c.args.links.now)
    c.loop-left.left c.loop-left.at c.loop-left-test.true (sym c.has_guid.ensures ∙ c.if-has_guid.true))
    ∙ c.loop-left.invariant

pub loop-left-preserved : goal.loop-left-preserved
loop-left-preserved c =
    sym (any_more (has_guid (map (λ link. link.guid) c.args.links.now) c.args.guid.now) (aboves c.args.links.now)
    c.loop-left.left c.loop-left.at c.in-Some.above c.loop-left-test.true
    (sym c.has_guid.ensures ∙ c.if-has_guid.false) (sym c.above_of.ensures ∙ c.in-Some.is))
    ∙ c.loop-left.invariant

pub returns-in-None : goal.returns-in-None
returns-in-None c =
    sym (any_last (has_guid (map (λ link. link.guid) c.args.links.now) c.args.guid.now) (aboves c.args.links.now)
    c.loop-left.left c.loop-left.at c.loop-left-test.true (sym c.has_guid.ensures ∙ c.if-has_guid.false)
    (sym c.above_of.ensures ∙ c.in-None.is)) ∙ c.loop-left.invariant

pub returns : goal.returns
returns c = sym (any_done (has_guid (map (λ link. link.guid) c.args.links.now) c.args.guid.now)
    (aboves c.args.links.now) c.loop-left.left c.loop-left.at (omega arith)) ∙ c.loop-left.invariant
