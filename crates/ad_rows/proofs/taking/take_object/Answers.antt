use Rattle.std.specs.Option.{option_copied}
use Rattle.ad_rows.proofs.Growing.{objects_taken}
use Rattle.ad_rows.proofs.taking.take_object.Goals as goal

pub returns-in_ok-push-in-Ok-clause-taken : goal.returns-in_ok-push-in-Ok-clause-taken
returns-in_ok-push-in-Ok-clause-taken c =
    let taken = c.args.taken.now in
    objects_taken (option_copied c.args.schema) taken.bad c.first_bad-taken.result taken.last c.in_ok-number.number
    taken.objects.items c.push.new.self.items (c.in-Ok.object, c.in-Ok.sd) c.in-Ok.good c.first_bad-taken.ensures
    c.in_ok-number.ensures.above.0 c.in_ok-number.ensures.above.1 c.in-Ok.ensures.number c.in-Ok.ensures.content
    c.in_ok-push-in-Ok.ensures.items
