use Rattle.std.proofs.Common.{refl, arith}
use Rattle.ad_sd.specs.Seen.{seen}
use Rattle.ad_sd.specs.SdIn.{is_normal}
use Rattle.ad_sd.proofs.NormalReader.{spelled_normal, spelled_in}
use Rattle.adsd_c.proofs.Normals.{not_found}
use Rattle.adsd_c.proofs.descriptors.normal_view.Goals as goal

pub returns-in-Some : goal.returns-in-Some
returns-in-Some c =
    let spelled = c.in-Some.ensures.some in
    rw (
      spelled_normal c.args.bytes.now (seen c.in-Some.view) spelled,
      spelled_in c.args.bytes.now
          (seen c.in-Some.view) spelled,
    ) refl

pub returns-in-None : goal.returns-in-None
returns-in-None c = λ _.
    rw (not_found (is_normal c.args.bytes.now) c.args.bytes.now refl (λ i. omega (arith, c.type_inv.bytes i))
    c.in-None.ensures.none) refl
