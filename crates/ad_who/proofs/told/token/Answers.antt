use Rattle.std.proofs.Common.{List, ℕ, map, subst}
use Rattle.std.specs.String.{string_bytes}
use Rattle.ad_dir.proofs.NameLaws.{if_ok}
use Rattle.ad_who.specs.Answers.{IsTokenText, IsTokenRefusal}
use Rattle.ad_who.proofs.Refused.{told_refused}
use Rattle.ad_who.proofs.told.token.Goals as goal

pub returns-in-Err : goal.returns-in-Err
returns-in-Err c =
    let dir = c.args.dir.now in
    let name = c.args.name.now in
    let texts = map string_bytes c.args.sids.now in
    let fault = c.in-Err.fault in
    let refused = subst (λ (text : List ℕ). IsTokenRefusal dir text texts fault) c.as_bytes.ensures.value
    c.in-Err.ensures.refusal in
    if_ok c.refusal.result (λ told said. told_refused dir (IsTokenText dir name texts) (IsTokenRefusal dir name texts)
    fault told refused said) c.refusal.ensures
