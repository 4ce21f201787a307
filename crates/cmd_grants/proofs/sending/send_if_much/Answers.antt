use Rattle.std.proofs.Common.{[], sym}
use Rattle.std.proofs.lemmas.List.{append-nil}
use Rattle.cmd_call.proofs.Moments.{IsLawful}
use Rattle.cmd_grants.proofs.HoldSteps.{holds_all, holds_none, holds_part}
use Rattle.cmd_grants.proofs.sending.send_if_much.Goals as goal

pub returns-then-is_little : goal.returns-then-is_little
returns-then-is_little g c =
    let law : IsLawful g.S.Site = record { output = g.met.S.Site.left_output; until = g.met.S.Site.left_until } in
    holds_all g.S.Site law c.args.site.now c.args.held.now.items c.args.held.now.items []
    (sym (append-nil c.args.held.now.items))
