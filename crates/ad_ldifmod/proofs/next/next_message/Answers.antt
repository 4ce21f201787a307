use Rattle.std.proofs.Common.{◌∙◌, ap}
use Rattle.ad_ldifmod.specs.Lines.{lines_of}
use Rattle.ad_ldifmod.specs.Taken.{from}
use Rattle.ad_ldifmod.proofs.OneByOne.{next_taken}
use Rattle.ad_ldifmod.proofs.next.next_message.Goals as goal

pub returns-in-Ok-clause-next : goal.returns-in-Ok-clause-next
returns-in-Ok-clause-next c =
    next_taken c.args.dir.now c.args.taken.now c.take_line.new.taken c.args.text.now c.first_line.result.0.now
    c.first_line.result.1.now c.in-Ok.message c.first_line.ensures c.requires.room c.in-Ok.ensures.taken

pub returns-in-Err-clause-faulty : goal.returns-in-Err-clause-faulty
returns-in-Err-clause-faulty c =
    λ real. ap (from c.args.dir.now c.args.taken.now) c.first_line.ensures.lines
    ∙ c.in-Err.ensures.faulty real (lines_of c.first_line.result.1.now)
