use Rattle.std.proofs.Common.{◌≡◌, ◌∙◌, Bool, true, false, List, refl, ap}
use Rattle.std.specs.Prelude.{◌==◌, ◌&&◌, ◌||◌}
use Rattle.std.proofs.lemmas.Result.{on_ok_weaker}
use Rattle.ad_ids.specs.SidValue.{SidValue, same_sid, contains_sid}
use Rattle.ad_rights.specs.Holding.{has, listed}
use Rattle.ad_rights.proofs.holding.note_token.Goals as goal

both : (x a b p : Bool) → ((x || (a && p)) || (b && p)) ≡ (x || ((a || b) && p))
both true a b p = refl
both false true true true = refl
both false true true false = refl
both false true false true = refl
both false true false false = refl
both false false b p = refl

pub returns : goal.returns
returns c =
    let table = c.args.table.now in
    let user = c.args.token.now.user in
    on_ok_weaker c.note_all.result
    (λ gains sid place. gains sid place
    ∙ ap (λ (q : Bool). q || (contains_sid c.as_slice.result.now sid && c.args.place == place))
    (c.in_ok-note.ensures sid place)
    ∙ ap (λ (l : List SidValue). (has (listed table sid) place || (same_sid user sid && c.args.place == place))
    || (contains_sid l sid && c.args.place == place)) c.as_slice.ensures
    ∙ both (has (listed table sid) place) (same_sid user sid) (contains_sid c.args.token.now.groups sid)
    (c.args.place == place))
    c.note_all.ensures
