use Rattle.ad_dir_table.proofs.Next.{above_is, above_none}
use Rattle.ad_dir_table.proofs.stored_object.next_number.Goals as goal

pub returns-in-Some : goal.returns-in-Some
returns-in-Some c = λ live.
    above_is live c.args.objects.now.entries c.range.result c.next.new.self c.args.above c.in-Some.number.now
    c.in-Some.field-0-1.now c.requires (c.range.ensures.between tt) c.in-Some.ensures.steps

pub returns-in-None : goal.returns-in-None
returns-in-None c = λ live. above_none live c.args.objects.now.entries c.range.result c.args.above c.requires
    (c.range.ensures.between tt) c.in-None.ensures.steps.0
