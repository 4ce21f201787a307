use Rattle.ad_control_asked.proofs.judging.Judging.new.Goals as goal

pub put_ends-requires : goal.put_ends-requires
put_ends-requires c =
    record { judged = c.new-judged.ensures c.args.dir.now c.args.ground.now.parties.tokens.all.items }
