use Rattle.std.proofs.Common.{List, sym, subst}
use Rattle.ad_ids.specs.declared.token.Token.{Token}
use Rattle.ad_rights.specs.Holding.{IsHoldingOf}
use Rattle.ad_rights.specs.Set.{AreBare}
use Rattle.ad_rights_judged.proofs.Holders.{bare_more}
use Rattle.ad_rights_judged.proofs.tokens.Tokens.add.Goals as goal

pub returns-clause-indexed : goal.returns-clause-indexed
returns-clause-indexed c =
    let was = c.requires.indexed in
    let more = sym c.in_ok-push.ensures.items in
    record {
      index = subst (λ (l : List Token). IsHoldingOf l c.add.new.self) more
          (c.in_ok-add.ensures c.args.self.now.all.items was.index);
      bare = subst AreBare more (bare_more c.args.self.now.all.items c.args.token was.bare c.requires.bare);
    }
