use Rattle.std.proofs.Common.{◌≡◌, ℕ, Bool, List, true, false, map, sym, ◌∙◌, arith}
use Rattle.std.specs.List.{list_any}
use Rattle.ad_schema_classes.specs.declared.links.ClassLinks.{ClassLinks}
use Rattle.ad_schema_classes.specs.Chains.{chain, contains, list_at}
use Rattle.ad_schema_classes.specs.Rows.{aboves}
use Rattle.ad_schema_classes.proofs.ChainLemmas.{chain_starts, any_first, any_more, any_last, any_done}
use Rattle.ad_schema_classes.proofs.chain.is_under.Goals as goal

abbrev test : List ClassLinks → ℕ → ℕ → Bool
test links parent class = list_any (contains (chain (aboves links) parent))
    (list_at (map (λ link. link.superiors) links) class)

pub loop-left-init : goal.loop-left-init
loop-left-init c = chain_starts (list_any (test c.args.links.now c.args.parent)) c.args.links.now c.args.child

pub returns-then-any_above : goal.returns-then-any_above
returns-then-any_above c =
    let is : test c.args.links.now c.args.parent c.loop-left.at ≡ true = cc in
    sym (any_first (test c.args.links.now c.args.parent) (aboves c.args.links.now) c.loop-left.left c.loop-left.at
    c.loop-left-test.true is) ∙ c.loop-left.invariant

pub loop-left-preserved : goal.loop-left-preserved
loop-left-preserved c =
    let not : test c.args.links.now c.args.parent c.loop-left.at ≡ false = cc in
    sym (any_more (test c.args.links.now c.args.parent) (aboves c.args.links.now) c.loop-left.left c.loop-left.at
    c.in-Some.above c.loop-left-test.true not (sym c.above_of.ensures ∙ c.in-Some.is)) ∙ c.loop-left.invariant

pub returns-in-None : goal.returns-in-None
returns-in-None c =
    let not : test c.args.links.now c.args.parent c.loop-left.at ≡ false = cc in
    sym (any_last (test c.args.links.now c.args.parent) (aboves c.args.links.now) c.loop-left.left c.loop-left.at
    c.loop-left-test.true not (sym c.above_of.ensures ∙ c.in-None.is)) ∙ c.loop-left.invariant

pub returns : goal.returns
returns c = sym (any_done (test c.args.links.now c.args.parent) (aboves c.args.links.now) c.loop-left.left
    c.loop-left.at (omega arith)) ∙ c.loop-left.invariant
