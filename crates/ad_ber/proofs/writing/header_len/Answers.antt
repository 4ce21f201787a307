use Rattle.ad_ber.proofs.Shortest.{length_long}
use Rattle.ad_ber.proofs.writing.header_len.Goals as goal

pub returns-clause-len : goal.returns-clause-len
returns-clause-len c = λ tag. length_long tag c.args.len c.width.result c.if-len-lt128.false c.width.ensures.width
