use Rattle.ad_value.proofs.ShownLaws.{shown_again, shown_read}
use Rattle.ad_value.proofs.Lower.{Promised}
use Rattle.ad_value.proofs.laws.what_is_shown_reads_back.Goals as goal

pub returns : goal.returns
returns c =
    let w : Promised = record {
      names = c.what_a_text_spells.ensures;
      sid_texts = c.what_a_sid_s_text_spells.ensures;
      sid_read = c.a_sid_is_read_as_spelled.ensures;
    } in
    record {
      shown = λ s bytes v p. shown_again s bytes v p;
      read = λ s bytes v b e. shown_read w c.a_sid_has_8_bytes_and_4_for_each.ensures s bytes v b e;
    }
