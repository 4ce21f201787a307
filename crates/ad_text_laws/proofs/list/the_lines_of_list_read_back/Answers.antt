use Rattle.ad_text_laws.proofs.ListLaws.{listed_back}
use Rattle.ad_text_laws.proofs.list.the_lines_of_list_read_back.Goals as goal

pub returns : goal.returns
returns c = listed_back
