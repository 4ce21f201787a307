use Rattle.ad_text_laws.proofs.LineLaws.{line_first}
use Rattle.ad_text_laws.proofs.lines.a_text_gives_back_its_lines.Goals as goal

pub returns : goal.returns
returns c = λ line rest e. line_first line rest e
