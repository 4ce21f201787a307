use Rattle.ad_ids.proofs.GuidCodec.{guid_reader}
use Rattle.ad_ids.proofs.laws.a_guid_is_read_as_spelled.Goals as goal

pub returns : goal.returns
returns c = guid_reader
