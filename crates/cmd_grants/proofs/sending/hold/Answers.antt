use Rattle.cmd_call.proofs.Moments.{IsLawful}
use Rattle.cmd_grants.specs.Sending.{frame_if}
use Rattle.cmd_grants.proofs.HoldSteps.{holds_put, holds_not}
use Rattle.cmd_grants.proofs.sending.hold.Goals as goal

pub returns-in-Ok : goal.returns-in-Ok
returns-in-Ok g c =
    holds_put g.S.Site c.args.site.now c.send_if_much.new.site c.args.held.now.items c.put_if.new.held.items
    c.send_if_much.new.held.items (frame_if c.args.message) c.send_if_much.result c.in-Ok.ensures
    c.send_if_much.ensures

pub returns-in-Err : goal.returns-in-Err
returns-in-Err g c =
    let law : IsLawful g.S.Site = record { output = g.met.S.Site.left_output; until = g.met.S.Site.left_until } in
    holds_not g.S.Site law c.args.site.now c.args.held.now.items c.put_if.new.held.items (frame_if c.args.message)
