use Rattle.ad_search.proofs.BaseLaws.{children_live, subtree_live}
use Rattle.ad_search.proofs.searching.objects_asked.Goals as goal

pub returns-clause-live : goal.returns-clause-live
returns-clause-live c = subtree_live c.whole_asked.result c.args.dir.now c.args.base c.whole_asked.ensures

pub returns-then-scope-eq-SINGLE_LEVEL-clause-live : goal.returns-then-scope-eq-SINGLE_LEVEL-clause-live
returns-then-scope-eq-SINGLE_LEVEL-clause-live c =
    children_live c.copied.result c.args.dir.now.objects c.args.base c.children.result.now c.children.ensures
    c.copied.ensures
