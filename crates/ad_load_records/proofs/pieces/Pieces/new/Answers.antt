use Rattle.std.proofs.Common.{ap}
use Rattle.ad_load_records.specs.Seen.{seen}
use Rattle.ad_load_records.proofs.Cutting.{first_gives}
use Rattle.ad_load_records.proofs.pieces.Pieces.new.Goals as goal
use Rattle.std.proofs.Common.{map}

pub returns-clause-gives : goal.returns-clause-gives
returns-clause-gives c = λ rest. first_gives _ _ _ rest c.new.ensures.line c.new.ensures.held
    (ap (map seen) c.new.ensures.records)
