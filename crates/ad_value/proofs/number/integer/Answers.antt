use Rattle.std.proofs.Common.{FitsSigned, rules, sym, refl, arith}
use Rattle.std.specs.Int.{w32, w64}
use Rattle.std.proofs.lemmas.Bool.{true≢false}
use Rattle.std.proofs.lemmas.Int.{to_z-of_z}
use Rattle.ad_value.proofs.FormLaws.{number_read, number_not_read}
use Rattle.ad_value.proofs.number.integer.Goals as goal

pub returns-then-not-fits_32 : goal.returns-then-not-fits_32
returns-then-not-fits_32 c =
    let fits : FitsSigned w64 c.in-Some.number = search rules in
    let told = rw (to_z-of_z w64 c.in-Some.number fits) at c.if-not-fits_32.ensures in
    number_not_read w32 c.args.bytes.now c.in-Some.number (λ z f. omega (arith, f.sfits)) fits.sfits
    (λ small. true≢false (sym (told.1 small))) c.in-Some.ensures

pub returns : goal.returns
returns c =
    let fits : FitsSigned w64 c.in-Some.number = search rules in
    let told = rw (to_z-of_z w64 c.in-Some.number fits) at c.if-not-fits_32.ensures in
    let read = rw (to_z-of_z w64 c.in-Some.number fits) at c.of_number.ensures in
    number_read w32 c.args.bytes.now c.in-Some.number c.of_number.result (λ z f. omega (arith, f.sfits)) (told.0 refl)
    c.in-Some.ensures read
