use Rattle.std.proofs.Common.{Option, Some, None, subst}
use Rattle.ad_ids.specs.declared.token.Token.{Token}
use Rattle.ad_who.specs.Lines.{IsTokenIf}
use Rattle.ad_who.proofs.Putting.{where_ok}
use Rattle.ad_who.proofs.having.put_who_line.Goals as goal

pub returns-in-Some : goal.returns-in-Some
returns-in-Some c =
    let P : Option Token → Type 0 = λ token. IsTokenIf c.args.dir.now c.args.identity.now token in
    where_ok c.put_token_line.result
    (λ line. (Some c.in-Some.token, subst P c.in-Some.is c.in_ok-found.ensures.token, line))
    c.put_token_line.ensures

pub returns-in-None : goal.returns-in-None
returns-in-None c =
    let P : Option Token → Type 0 = λ token. IsTokenIf c.args.dir.now c.args.identity.now token in
    where_ok c.put_none_line.result
    (λ line. (None, subst P c.in-None.is c.in_ok-found.ensures.token, line))
    c.put_none_line.ensures
