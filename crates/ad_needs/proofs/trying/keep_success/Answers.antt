use Rattle.std.proofs.Common.{[], ◌∷◌, refl}
use Rattle.ad_needs_rules.specs.Judged.{asked}
use Rattle.ad_needs.specs.Tries.{success_of}
use Rattle.ad_needs.proofs.StepLaws.{drops, keeps}
use Rattle.ad_needs.proofs.trying.keep_success.Goals as goal

pub returns-then-not-trace : goal.returns-then-not-trace
returns-then-not-trace c = drops c.args.trace.now (success_of (asked c.args.ask.now) ∷ []) c.if-not-trace.true

pub returns : goal.returns
returns c =
    keeps c.args.trace.now (record { is_kept = c.args.trace.now.is_kept; tried = c.push.new.self }) c.success.result
    (success_of (asked c.args.ask.now)) c.if-not-trace.false refl c.success.ensures c.in_ok-push.ensures.items
