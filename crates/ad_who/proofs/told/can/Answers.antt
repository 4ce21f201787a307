use Rattle.std.proofs.Common.{List, ℕ, subst}
use Rattle.std.specs.Option.{option_map}
use Rattle.ad_dir.proofs.NameLaws.{if_ok}
use Rattle.ad_who.specs.Answers.{IsCanText, IsCanRefusal}
use Rattle.ad_who.proofs.Refused.{told_refused}
use Rattle.ad_who.proofs.told.can.Goals as goal

pub returns-in-Err : goal.returns-in-Err
returns-in-Err c =
    let dir = c.args.dir.now in
    let name = c.args.name.now in
    let right = c.args.right.now in
    let base = option_map (λ text. text.now) c.args.base in
    let fault = c.in-Err.fault in
    let on_name = subst (λ (text : List ℕ). IsCanRefusal dir text c.as_bytes-2.result.now base fault)
    c.as_bytes.ensures.value c.in-Err.ensures.refusal in
    let refused = subst (λ (text : List ℕ). IsCanRefusal dir name text base fault) c.as_bytes-2.ensures.value
    on_name in
    if_ok c.refusal.result (λ told said. told_refused dir (IsCanText dir name right base)
    (IsCanRefusal dir name right base) fault told refused said) c.refusal.ensures
