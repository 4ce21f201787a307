use Rattle.std.proofs.Common.{[], ◌∷◌}
use Rattle.std.specs.Prelude.{if◌then◌else◌}
use Rattle.ad_needs_rules.specs.Needs.{Alternative}
use Rattle.ad_needs_rules.specs.Judged.{asked}
use Rattle.ad_needs.proofs.StepLaws.{is_so, met, missing, either_granted, none_granted}
use Rattle.ad_needs.proofs.trying.require_either.Goals as goal

pub returns-in-Some-clause-steps : goal.returns-in-Some-clause-steps
returns-in-Some-clause-steps c =
    let dir = c.args.dir.now in
    let token = c.args.token.now in
    let a = asked c.args.first.now in
    let b = asked c.args.second.now in
    missing dir token c.args.trace.now c.keep_failure.new.trace c.in-Some.refusal a (b ∷ [])
    (none_granted dir token (a ∷ b ∷ []) c.in-Some.refusal (rw c.in-Some.is at c.in_ok-refusal.ensures))
    c.in_ok-keep_failure.ensures

pub returns-clause-steps : goal.returns-clause-steps
returns-clause-steps c =
    let dir = c.args.dir.now in
    let token = c.args.token.now in
    let a = asked c.args.first.now in
    let b = asked c.args.second.now in
    let granted : Alternative = if is_so dir token a then a else b in
    met dir token c.args.trace.now c.keep_either.new.trace (a ∷ b ∷ []) granted
    (either_granted dir token a b (rw c.in_default.is at c.in_ok-refusal.ensures)) c.in_ok-keep_either.ensures
