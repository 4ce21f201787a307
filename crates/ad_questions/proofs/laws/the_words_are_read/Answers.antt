use Rattle.ad_questions.proofs.TextLaws.{words_are, descriptor_read_is, read_is, write_is, add_is}
use Rattle.ad_questions.proofs.laws.the_words_are_read.Goals as goal

pub returns-clause-words : goal.returns-clause-words
returns-clause-words c = words_are

pub returns-clause-descriptor : goal.returns-clause-descriptor
returns-clause-descriptor c = descriptor_read_is

pub returns-clause-read : goal.returns-clause-read
returns-clause-read c = read_is

pub returns-clause-write : goal.returns-clause-write
returns-clause-write c = write_is

pub returns-clause-add : goal.returns-clause-add
returns-clause-add c = add_is
