use Rattle.std.proofs.Common.{◌≡◌, ℕ, Option, false, not, sym, ap, ◌∙◌}
use Rattle.std.specs.Option.{is_some}
use Rattle.ad_ldif.specs.Lines.{is_empty}
use Rattle.ad_ldif.proofs.LineLemmas.{is_empty_length}
use Rattle.ad_ldif.proofs.ChangeLineLemmas.{name_is, other}
use Rattle.ad_ldif.proofs.change_lines.is_name.Goals as goal

pub returns : goal.returns
returns c =
    let some : is_empty c.args.value.now ≡ false = is_empty_length c.args.value.now ∙ sym c.is_empty.ensures
    ∙ c.if-is_empty.false in
    other _ _ c.is_none.ensures ∙ ap (λ (o : Option ℕ). not (is_some o)) c.name_end.ensures ∙ name_is c.args.value.now
    some
