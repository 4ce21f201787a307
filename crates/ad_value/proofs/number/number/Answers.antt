use Rattle.std.proofs.Common.{rules, FitsSigned, List, ℕ, sym, ap, subst, ◌∙◌}
use Rattle.std.specs.Str.{IsAscii}
use Rattle.std.specs.Int.{w64}
use Rattle.std.proofs.lemmas.Int.{to_z-of_z}
use Rattle.std.specs.Fmt.{signed_decimal}
use Rattle.std.proofs.lemmas.Str.{IsUtf8-from_ascii}
use Rattle.std.proofs.lemmas.Fmt.{IsAscii-signed}
use Rattle.ad_value.proofs.NumberLaws.{parsed_same, parsed_none}
use Rattle.ad_value.proofs.number.number.Goals as goal

pub returns-in-Err : goal.returns-in-Err
returns-in-Err c = λ n fits e.
    let ascii : IsAscii c.args.bytes.now = subst (λ (t : List ℕ). IsAscii t) (sym e) (IsAscii-signed n fits.sfits) in
    c.in-Err.ensures.cases.0 (IsUtf8-from_ascii c.args.bytes.now ascii)

pub returns-in-Err-parse : goal.returns-in-Err-parse
returns-in-Err-parse c = λ n fits e.
    parsed_none n c.in-Err-parse.field-0 c.in-Ok.text.now c.parse.result c.in-Err-parse.is fits
    (c.in-Ok.ensures.cases.0 ∙ e) c.parse.ensures.value.0

pub returns-else-is_written : goal.returns-else-is_written
returns-else-is_written c = λ n fits e.
    let same = parsed_same n c.in-Ok-parse.number c.in-Ok.text.now c.parse.result c.in-Ok-parse.is fits
    (c.in-Ok.ensures.cases.0 ∙ e) c.parse.ensures.value.0 in
    let own : FitsSigned w64 c.in-Ok-parse.number = search rules in
    c.if-is_written.ensures (e ∙ ap signed_decimal (same ∙ sym (to_z-of_z w64 c.in-Ok-parse.number own)))
