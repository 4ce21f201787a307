use Rattle.ad_ids.proofs.SidWriting.{length-sid_bytes}
use Rattle.ad_ids.proofs.laws.a_sid_has_8_bytes_and_4_for_each.Goals as goal

pub returns : goal.returns
returns c = length-sid_bytes
