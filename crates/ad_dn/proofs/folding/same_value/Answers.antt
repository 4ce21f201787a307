use Rattle.ad_dn.proofs.SameNames.{match_folded}
use Rattle.ad_dn.proofs.folding.same_value.Goals as goal

pub returns : goal.returns
returns c = match_folded c.default_caseless_match_str.result c.args.a.now c.args.b.now c.text_of.result.now
    c.text_of-2.result.now c.text_of.ensures c.text_of-2.ensures c.default_caseless_match_str.ensures
