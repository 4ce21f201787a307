use Rattle.ad_ldifmod_laws.proofs.Own.{own_lines}
use Rattle.ad_ldifmod_laws.proofs.laws.an_object_has_what_its_own_lines_make.Goals as goal

pub returns : goal.returns
returns c = own_lines
