use Rattle.std.proofs.Common.{List, ℕ, subst}
use Rattle.ad_dir.proofs.NameLaws.{if_ok}
use Rattle.ad_who.specs.Answers.{IsWhoText, IsWhoRefusal}
use Rattle.ad_who.proofs.Refused.{told_refused}
use Rattle.ad_who.proofs.told.who.Goals as goal

pub returns-in-Err : goal.returns-in-Err
returns-in-Err c =
    let dir = c.args.dir.now in
    let right = c.args.right.now in
    let name = c.args.name.now in
    let fault = c.in-Err.fault in
    let on_right = subst (λ (text : List ℕ). IsWhoRefusal dir text c.as_bytes-2.result.now fault)
    c.as_bytes.ensures.value c.in-Err.ensures.refusal in
    let refused = subst (λ (text : List ℕ). IsWhoRefusal dir right text fault) c.as_bytes-2.ensures.value on_right in
    if_ok c.refusal.result (λ told said. told_refused dir (IsWhoText dir right name) (IsWhoRefusal dir right name)
    fault told refused said) c.refusal.ensures
