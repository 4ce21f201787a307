use Rattle.std.proofs.Common.{◌∙◌, ℕ, Option, None, ap}
use Rattle.std.specs.Prelude.{slice_get}
use Rattle.std.specs.Option.{option_copied, option_and_then}
use Rattle.ad_control_lines.proofs.Owning.{token_found}
use Rattle.ad_control_lines.proofs.tokens.token_at.Goals as goal

pub returns-in-Some-clause-token : goal.returns-in-Some-clause-token
returns-in-Some-clause-token c = λ nodes node is at.
    token_found c.args.dir.now nodes c.args.ground.now c.args.owners.now c.args.x node (option_copied c.get.result) is
    c.requires at (c.get.ensures
    ∙ ap (λ (p : Option ℕ). option_and_then (slice_get c.args.ground.now.parties.tokens.all.items) p)
    c.in-Some.ensures)

pub returns-in-None-clause-token : goal.returns-in-None-clause-token
returns-in-None-clause-token c = λ nodes node is at.
    token_found c.args.dir.now nodes c.args.ground.now c.args.owners.now c.args.x node None is
    c.requires at
    (ap (λ (p : Option ℕ). option_and_then (slice_get c.args.ground.now.parties.tokens.all.items) p) c.in-None.ensures)
