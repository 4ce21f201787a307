use Rattle.ad_value.proofs.ValueLaws.{normal_same}
use Rattle.ad_value.proofs.Lower.{Promised}
use Rattle.ad_value.proofs.laws.what_bytes_are.Goals as goal

pub returns : goal.returns
returns c =
    let w : Promised = record {
      names = c.what_a_text_spells.ensures;
      sid_texts = c.what_a_sid_s_text_spells.ensures;
      sid_read = c.a_sid_is_read_as_spelled.ensures;
    } in
    λ s bytes v b. normal_same w s bytes b v
