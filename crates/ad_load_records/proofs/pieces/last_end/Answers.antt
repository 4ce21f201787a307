use Rattle.ad_load_records.proofs.Cutting.{ends_behind}
use Rattle.std.proofs.Common.{◌<◌, arith}
use Rattle.std.proofs.lemmas.Bool.Decides.{nat_tests}
use Rattle.ad_load_records.proofs.pieces.last_end.Goals as goal

pub returns-clause-ends : goal.returns-clause-ends
returns-clause-ends c = λ _.
    let some : 0 < c.end_of_records-end.result = grind (arith, nat_tests) in
    ends_behind c.args.text.now c.args.from c.end_of_records-end.result (c.end_of_records-end.ensures.ends some)
