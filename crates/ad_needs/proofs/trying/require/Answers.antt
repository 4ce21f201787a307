use Rattle.std.proofs.Common.{[], ◌∷◌}
use Rattle.ad_needs_rules.specs.Judged.{asked}
use Rattle.ad_needs.proofs.StepLaws.{met, missing, one_granted, none_granted}
use Rattle.ad_needs.proofs.trying.require.Goals as goal

pub returns-in-Some-clause-steps : goal.returns-in-Some-clause-steps
returns-in-Some-clause-steps c =
    let dir = c.args.dir.now in
    let token = c.args.token.now in
    let a = asked c.args.ask.now in
    missing dir token c.args.trace.now c.keep_failure.new.trace c.in-Some.refusal a []
    (none_granted dir token (a ∷ []) c.in-Some.refusal (rw c.in-Some.is at c.in_ok-refusal.ensures))
    c.in_ok-keep_failure.ensures

pub returns-clause-steps : goal.returns-clause-steps
returns-clause-steps c =
    let dir = c.args.dir.now in
    let token = c.args.token.now in
    let a = asked c.args.ask.now in
    met dir token c.args.trace.now c.keep_success.new.trace (a ∷ []) a
    (one_granted dir token a (rw c.in_default.is at c.in_ok-refusal.ensures)) c.in_ok-keep_success.ensures
