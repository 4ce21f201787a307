use Rattle.ad_rows_write.proofs.Noted.{noted_more, noted_rise}
use Rattle.ad_rows_write.proofs.noting.put.Goals as goal

pub returns-in-Ok-clause-rows : goal.returns-in-Ok-clause-rows
returns-in-Ok-clause-rows c = noted_more c.args.row c.args.noted.now.entries c.insert.new.self.entries
    c.in-Ok.ensures.updates.0

pub returns-in-Ok-clause-rise : goal.returns-in-Ok-clause-rise
returns-in-Ok-clause-rise c = noted_rise c.insert.new.self.entries c.insert.ensures.ordered
