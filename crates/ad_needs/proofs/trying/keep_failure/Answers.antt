use Rattle.std.proofs.Common.{◌^◌, [], ◌∷◌, refl}
use Rattle.ad_types.specs.Tried.{failure_on}
use Rattle.ad_needs_rules.specs.Judged.{asked}
use Rattle.ad_needs.proofs.StepLaws.{drops, keeps}
use Rattle.ad_needs.proofs.trying.keep_failure.Goals as goal

pub returns-then-not-trace : goal.returns-then-not-trace
returns-then-not-trace c =
    let a = asked c.args.ask.now in
    drops c.args.trace.now (failure_on a.object (2 ^ a.bit) a.path ∷ []) c.if-not-trace.true

pub returns : goal.returns
returns c =
    let a = asked c.args.ask.now in
    keeps c.args.trace.now (record { is_kept = c.args.trace.now.is_kept; tried = c.push.new.self }) c.failure.result
    (failure_on a.object (2 ^ a.bit) a.path) c.if-not-trace.false refl c.failure.ensures
    c.in_ok-push.ensures.items
