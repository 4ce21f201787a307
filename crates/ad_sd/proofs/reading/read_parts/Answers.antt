use Rattle.std.proofs.Common.{Result, subst, arith}
use Rattle.ad_bytes.specs.Reading.{GivesUnless}
use Rattle.ad_sd.specs.declared.fault.SdFault.{SdFault}
use Rattle.ad_sd.specs.declared.parts.SdParts.{SdParts}
use Rattle.ad_sd.specs.Reading.{is_memory}
use Rattle.ad_sd.proofs.SdCodec.{parts_again, found_parts}
use Rattle.ad_sd.proofs.reading.read_parts.Goals as goal

pub returns-clause-found : goal.returns-clause-found
returns-clause-found c = found_parts c.args.bytes.now c.parts.result (λ i. omega (arith, c.type_inv.bytes i))
    c.parts.ensures

pub returns-clause-only : goal.returns-clause-only
returns-clause-only c = λ parts s. subst (λ (r : Result SdParts SdFault). GivesUnless is_memory (λ (p : SdParts). p)
    c.parts.result r) (parts_again c.args.bytes.now parts s) c.parts.ensures
