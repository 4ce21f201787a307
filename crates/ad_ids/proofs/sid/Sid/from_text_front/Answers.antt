use Rattle.ad_ids.proofs.SidFront.{answer_told, answer_none}
use Rattle.ad_ids.proofs.sid.Sid.from_text_front.Goals as goal

pub returns-clause-found : goal.returns-clause-found
returns-clause-found c = answer_told c.longest_prefix.result c.args.text.now c.longest_prefix.ensures.longest
    c.longest_prefix.ensures.within

pub returns-clause-none : goal.returns-clause-none
returns-clause-none c = answer_none c.longest_prefix.result c.args.text.now c.longest_prefix.ensures.longest
