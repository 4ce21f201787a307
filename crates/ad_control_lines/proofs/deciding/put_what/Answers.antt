use Rattle.std.proofs.Common.{◌≡◌, ◌∙◌, ℕ, List, ◌++◌, Option, Some, Bor, OnOk, ap, sym, subst}
use Rattle.std.specs.Option.{option_copied}
use Rattle.ad_bytes.specs.Puts.{spaced}
use Rattle.ad_ids.specs.declared.token.Token.{Token}
use Rattle.ad_control.specs.Lines.{what}
use Rattle.ad_control_lines.specs.Deciding.{decided, reason_word}
use Rattle.ad_control_lines.proofs.Whys.{what_is}
use Rattle.ad_control_lines.proofs.deciding.put_what.Goals as goal

pub returns-in_ok-reason-in-Some : goal.returns-in_ok-reason-in-Some
returns-in_ok-reason-in-Some c =
    let dir = c.args.dir.now in
    let token = c.in-Some.token.now in
    let found = c.in_ok-reason-in-Some.ensures ∙ ap (decided dir token c.args.number) c.ways.ensures in
    let word : reason_word c.in_ok-reason-in-Some.reason ≡ what dir (Some token) c.args.kind c.args.number
    = ap reason_word found ∙ sym (what_is dir token c.args.number c.args.kind) in
    subst (λ (own : Option (Bor Token)). OnOk c.put_reason_if.result (c.put_reason_if.new.into.items
    ≡ c.args.into.now.items ++ spaced (what dir (option_copied own) c.args.kind c.args.number))) (sym c.in-Some.is)
    (subst (λ (text : List ℕ). OnOk c.put_reason_if.result (c.put_reason_if.new.into.items
    ≡ c.args.into.now.items ++ spaced text)) word c.put_reason_if.ensures)

pub returns-in-None : goal.returns-in-None
unfolding what
returns-in-None c =
    subst (λ (own : Option (Bor Token)). OnOk c.put_spaced.result (c.put_spaced.new.into.items
    ≡ c.args.into.now.items ++ spaced (what c.args.dir.now (option_copied own) c.args.kind c.args.number)))
    (sym c.in-None.is) c.put_spaced.ensures
