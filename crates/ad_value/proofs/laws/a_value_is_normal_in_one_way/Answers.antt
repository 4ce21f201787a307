use Rattle.ad_value.proofs.ShownLaws.{one_value}
use Rattle.ad_value.proofs.Lower.{Promised}
use Rattle.ad_value.proofs.laws.a_value_is_normal_in_one_way.Goals as goal

pub returns : goal.returns
returns c =
    let w : Promised = record {
      names = c.what_a_text_spells.ensures;
      sid_texts = c.what_a_sid_s_text_spells.ensures;
      sid_read = c.a_sid_is_read_as_spelled.ensures;
    } in
    λ s bytes v u p q. one_value w s bytes v u p q
