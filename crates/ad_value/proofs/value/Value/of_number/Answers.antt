use Rattle.std.proofs.Common.{◌≡◌, refl, length, take, FitsSigned, arith}
use Rattle.std.specs.Int.{w64}
use Rattle.std.proofs.lemmas.List.{take_all}
use Rattle.ad_value.proofs.ValueLaws.{number_some}
use Rattle.ad_value.proofs.value.Value.of_number.Goals as goal

pub returns : goal.returns
returns c =
    let fits : FitsSigned w64 c.args.number = record { sfits = c.ranges.number.sfits } in
    let whole : take c.in_ok-end_of.field-0 c.in_ok-from_slice.field-0 ≡ c.args.shown.now
    = rw (c.in_ok-end_of.ensures, c.in_ok-from_slice.ensures)
    (take_all (length c.args.shown.now) c.args.shown.now (omega arith)) in
    rw (whole, number_some c.args.shown.now c.args.number fits c.requires) refl
