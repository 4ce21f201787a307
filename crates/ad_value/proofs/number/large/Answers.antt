use Rattle.std.proofs.Common.{FitsSigned, rules}
use Rattle.std.specs.Int.{w64}
use Rattle.std.proofs.lemmas.Int.{to_z-of_z}
use Rattle.ad_value.proofs.FormLaws.{number_read}
use Rattle.ad_value.proofs.number.large.Goals as goal

pub returns-in-Some : goal.returns-in-Some
returns-in-Some c =
    let fits : FitsSigned w64 c.in-Some.number = search rules in
    let read = rw (to_z-of_z w64 c.in-Some.number fits) at c.of_number.ensures in
    number_read w64 c.args.bytes.now c.in-Some.number c.of_number.result (λ z f. f.sfits) fits c.in-Some.ensures read
