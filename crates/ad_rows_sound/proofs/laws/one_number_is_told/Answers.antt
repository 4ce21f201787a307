use Rattle.ad_rows_sound.proofs.Reports.{never_told, told_once}
use Rattle.ad_rows_sound.proofs.laws.one_number_is_told.Goals as goal

pub returns-clause-never : goal.returns-clause-never
returns-clause-never c = never_told

pub returns-clause-once : goal.returns-clause-once
returns-clause-once c = told_once
