use Rattle.ad_questions.proofs.ReadLaws.{read_is, descriptor_is}
use Rattle.ad_questions.proofs.laws.reading_is_told_where_a_search_shows_it.Goals as goal

pub returns-clause-attribute : goal.returns-clause-attribute
returns-clause-attribute c = read_is

pub returns-clause-descriptor : goal.returns-clause-descriptor
returns-clause-descriptor c = descriptor_is
