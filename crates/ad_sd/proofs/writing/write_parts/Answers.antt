use Rattle.std.proofs.Common.{◌≡◌, ℕ, ◌≤◌, List, length, ap, sym, subst, ◌∙◌}
use Rattle.ad_sd.specs.Sd.{SpellsParts}
use Rattle.ad_sd.specs.Writing.{sid_part, laid_out}
use Rattle.ad_sd.proofs.SdWriting.{is_written}
use Rattle.ad_sd.proofs.LaidOut.{laid_spelled}
use Rattle.ad_sd.proofs.writing.write_parts.Goals as goal

pub returns-clause-written : goal.returns-clause-written
returns-clause-written c =
    let p = c.args.parts.now in
    let put : c.in_ok-bytes.bytes.items ≡ laid_out p c.in_ok-sacl.sacl.items c.in_ok-dacl.dacl.items
    = c.in_ok-bytes.ensures
    ∙ ap (λ (t : List ℕ). laid_out p t c.deref-4.result.now) c.deref-3.ensures.value
    ∙ ap (λ (t : List ℕ). laid_out p c.in_ok-sacl.sacl.items t) c.deref-4.ensures.value in
    is_written p c.in_ok-bytes.bytes.items c.in_ok-sacl.sacl.items c.in_ok-dacl.dacl.items c.in_ok-sacl.ensures.bytes
    c.in_ok-dacl.ensures.bytes put

pub returns-clause-spelled : goal.returns-clause-spelled
returns-clause-spelled c =
    let p = c.args.parts.now in
    let put : c.in_ok-bytes.bytes.items ≡ laid_out p c.in_ok-sacl.sacl.items c.in_ok-dacl.dacl.items
    = c.in_ok-bytes.ensures
    ∙ ap (λ (t : List ℕ). laid_out p t c.deref-4.result.now) c.deref-3.ensures.value
    ∙ ap (λ (t : List ℕ). laid_out p c.in_ok-sacl.sacl.items t) c.deref-4.ensures.value in
    let owner : length (sid_part p.owner) ≤ 68 = subst (λ (t : List ℕ). length t ≤ 68) c.in_ok-owner.ensures.bytes
    c.in_ok-owner.ensures.few in
    let group : length (sid_part p.group) ≤ 68 = subst (λ (t : List ℕ). length t ≤ 68) c.in_ok-group.ensures.bytes
    c.in_ok-group.ensures.few in
    subst (SpellsParts p) (sym put) (laid_spelled p c.in_ok-sacl.sacl.items c.in_ok-dacl.dacl.items
    c.in_ok-owner.ensures.is c.in_ok-group.ensures.is c.in_ok-sacl.ensures.spelled c.in_ok-dacl.ensures.spelled
    owner group c.in_ok-sacl.ensures.few)
