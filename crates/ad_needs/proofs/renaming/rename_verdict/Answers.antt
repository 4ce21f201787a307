use Rattle.std.proofs.Common.{◌≡◌, ◌∙◌, ℕ, List, Some, sym, ap}
use Rattle.std.specs.Option.{option_and_then}
use Rattle.ad_dn.specs.Reading.{dn_of}
use Rattle.ad_dir.proofs.NameLaws.{if_ok}
use Rattle.ad_needs_rules.specs.Requests.{name_in}
use Rattle.ad_needs_rules.specs.Renaming.{one_part}
use Rattle.ad_needs.proofs.RenameLaws.{rename_unread, rename_partless, rename_in_place, rename_moved}
use Rattle.ad_needs.proofs.renaming.rename_verdict.Goals as goal

pub returns-in_default : goal.returns-in_default
returns-in_default c = λ settings. rename_unread c.args.dir.now c.args.token.now c.args.rename.now settings
    (rw c.in_default.is at c.in_ok-dn.ensures ∙ ap dn_of c.as_slice.ensures)

pub returns-in_default-2 : goal.returns-in_default-2
returns-in_default-2 c = λ settings.
    rename_partless c.args.dir.now c.args.token.now c.args.rename.now settings c.in-Some.dn
    (rw c.in-Some.is at c.in_ok-dn.ensures ∙ ap dn_of c.as_slice.ensures)
    (rw c.in_default-2.is at c.in_ok-rdn.ensures ∙ ap (λ (t : List ℕ). option_and_then one_part (name_in t))
    c.as_slice-2.ensures)

pub returns-in-Some-superior : goal.returns-in-Some-superior
returns-in-Some-superior c = λ settings.
    let text = c.as_slice-in-Some-superior.result.now in
    let sent : Some text ≡ c.args.rename.now.superior = ap (λ (t : List ℕ). Some t)
    c.as_slice-in-Some-superior.ensures ∙ sym c.in-Some-superior.is in
    if_ok c.judged_moved.result
    (λ verdict is. is
    ∙ rename_moved c.args.dir.now c.args.token.now c.args.rename.now settings c.in-Some.dn c.in-Some-2.rdn
    text
    (rw c.in-Some.is at c.in_ok-dn.ensures ∙ ap dn_of c.as_slice.ensures)
    (rw c.in-Some-2.is at c.in_ok-rdn.ensures ∙ ap (λ (t : List ℕ). option_and_then one_part (name_in t))
    c.as_slice-2.ensures) sent)
    c.judged_moved.ensures

pub returns : goal.returns
returns c = λ settings.
    if_ok c.judged_in_place.result
    (λ verdict is. is
    ∙ rename_in_place c.args.dir.now c.args.token.now c.args.rename.now settings c.in-Some.dn c.in-Some-2.rdn
    (rw c.in-Some.is at c.in_ok-dn.ensures ∙ ap dn_of c.as_slice.ensures)
    (rw c.in-Some-2.is at c.in_ok-rdn.ensures ∙ ap (λ (t : List ℕ). option_and_then one_part (name_in t))
    c.as_slice-2.ensures) (sym c.in-None.is))
    c.judged_in_place.ensures
