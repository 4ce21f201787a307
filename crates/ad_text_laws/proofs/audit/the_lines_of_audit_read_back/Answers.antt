use Rattle.ad_text_laws.proofs.EventLaws.{events_back}
use Rattle.ad_text_laws.proofs.audit.the_lines_of_audit_read_back.Goals as goal

pub returns : goal.returns
returns c = events_back
