use Rattle.ad_text_laws.proofs.WordLines.{words_back}
use Rattle.ad_text_laws.proofs.words.lines_of_words_read_back.Goals as goal

pub returns : goal.returns
returns c = words_back
