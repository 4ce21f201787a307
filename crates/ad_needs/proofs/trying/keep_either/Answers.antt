use Rattle.std.proofs.Common.{[], ◌∷◌, refl, ap, ◌∙◌}
use Rattle.std.specs.Prelude.{if◌then◌else◌}
use Rattle.ad_needs_rules.specs.Needs.{Alternative}
use Rattle.ad_needs_rules.specs.Judged.{asked}
use Rattle.ad_needs.specs.Tries.{success_of}
use Rattle.ad_needs.proofs.StepLaws.{is_so, drops, keeps}
use Rattle.ad_needs.proofs.trying.keep_either.Goals as goal

pub returns-then-not-trace : goal.returns-then-not-trace
returns-then-not-trace c =
    let a = asked c.args.first.now in
    let b = asked c.args.second.now in
    let granted : Alternative = if is_so c.args.dir.now c.args.token.now a then a else b in
    drops c.args.trace.now (success_of granted ∷ []) c.if-not-trace.true

pub returns : goal.returns
returns c =
    let a = asked c.args.first.now in
    let b = asked c.args.second.now in
    let granted : Alternative = if is_so c.args.dir.now c.args.token.now a then a else b in
    keeps c.args.trace.now (record { is_kept = c.args.trace.now.is_kept; tried = c.push.new.self }) c.success.result
    (success_of granted) c.if-not-trace.false refl
    (c.success.ensures ∙ ap success_of c.granted_of-granted.ensures) c.in_ok-push.ensures.items
