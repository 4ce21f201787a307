use Rattle.std.proofs.Common.{Result, subst, arith}
use Rattle.ad_bytes.specs.Reading.{GivesUnless}
use Rattle.ad_sd.specs.declared.fault.SdFault.{SdFault}
use Rattle.ad_sd.specs.declared.parts.Sd.{Sd}
use Rattle.ad_sd.specs.Reading.{is_memory}
use Rattle.ad_sd.proofs.SdCodec.{sd_again, found_sd}
use Rattle.ad_sd.proofs.reading.read_sd.Goals as goal

pub returns-clause-found : goal.returns-clause-found
returns-clause-found c = found_sd c.args.bytes.now c.whole.result (λ i. omega (arith, c.type_inv.bytes i))
    c.whole.ensures

pub returns-clause-only : goal.returns-clause-only
returns-clause-only c = λ sd s. subst (λ (r : Result Sd SdFault). GivesUnless is_memory (λ (d : Sd). d) c.whole.result
    r) (sd_again c.args.bytes.now sd s) c.whole.ensures
