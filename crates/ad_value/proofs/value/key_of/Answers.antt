use Rattle.std.proofs.Common.{rules, refl, FitsSigned}
use Rattle.std.specs.Int.{w64}
use Rattle.std.proofs.lemmas.Int.{to_z-of_z}
use Rattle.ad_value.proofs.ValueLaws.{number_some, number_none}
use Rattle.ad_value.proofs.value.key_of.Goals as goal

pub returns-in-Some : goal.returns-in-Some
returns-in-Some c =
    let fits : FitsSigned w64 c.in-Some.number = search rules in
    rw (
      to_z-of_z w64 c.in-Some.number fits,
      c.if-not-is_number.false,
      number_some c.args.text.now c.in-Some.number
          fits c.in-Some.ensures,
    ) refl

pub returns-in-None : goal.returns-in-None
returns-in-None c = rw (c.if-not-is_number.false, number_none c.args.text.now c.in-None.ensures) refl
