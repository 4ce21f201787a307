use Rattle.ad_bytes.proofs.Many.{spellings_apart}
use Rattle.ad_ids.specs.Token.{SpellsFields}
use Rattle.ad_ids.specs.TokenReading.{fields_at}
use Rattle.ad_ids.proofs.TokenCodec.{fields_reader}
use Rattle.ad_ids.proofs.laws.no_token_begins_another.Goals as goal

pub returns : goal.returns
returns c = λ a b x y r s sa sb e.
    let apart = spellings_apart SpellsFields fields_at fields_reader a b x y r s sa.0 sb.0 e in
    (apart.0, apart.1)
