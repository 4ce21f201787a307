use Rattle.cmd_change.proofs.Carrying.{whole, carried}
use Rattle.cmd_change.proofs.laws.each_record_has_its_frame.Goals as goal

pub returns-clause-whole : goal.returns-clause-whole
returns-clause-whole c = whole

pub returns-clause-frames : goal.returns-clause-frames
returns-clause-frames c = carried
