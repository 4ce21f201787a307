use Rattle.std.proofs.Common.{arith}
use Rattle.ad_value.proofs.ValueLaws.{given}
use Rattle.ad_value.proofs.Lower.{Promised}
use Rattle.ad_value.proofs.forms.normal.Goals as goal

pub returns-clause-value : goal.returns-clause-value
returns-clause-value c =
    let w : Promised = record {
      names = c.what_a_text_spells.ensures;
      sid_texts = c.what_a_sid_s_text_spells.ensures;
      sid_read = c.a_sid_is_read_as_spelled.ensures;
    } in
    given w c.args.syntax c.args.bytes.now (λ i. omega (arith, c.type_inv.bytes i)) (omega arith) c.form.result
    c.form.ensures
