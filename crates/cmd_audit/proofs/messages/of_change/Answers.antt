use Rattle.std.proofs.Common.{List, sym, ap, ◌∙◌}
use Rattle.ad_ldap.specs.declared.controls.Settings.{Settings}
use Rattle.ad_ldap.specs.MessageValue.{op_seen}
use Rattle.ad_types.specs.Tried.{TriedValue}
use Rattle.ad_needs.specs.Traces.{trace_of}
use Rattle.cmd_audit.specs.Tries.{with_settings}
use Rattle.cmd_audit.proofs.Given.{tried_as, tried_none}
use Rattle.cmd_audit.proofs.messages.of_change.Goals as goal

pub returns-in-Ok : goal.returns-in-Ok
returns-in-Ok c =
    let tries : Settings → List TriedValue = λ s. trace_of c.args.dir.now c.args.token.now
    (op_seen c.args.message.now.op) s in
    tried_as c.trace.result _ _ (ap (with_settings tries) (sym c.in-Ok.is ∙ c.settings.ensures)) c.trace.ensures

pub returns-in-Err : goal.returns-in-Err
returns-in-Err c =
    let tries : Settings → List TriedValue = λ s. trace_of c.args.dir.now c.args.token.now
    (op_seen c.args.message.now.op) s in
    tried_none c.new.result c.new.ensures.items _ (ap (with_settings tries) (sym c.in-Err.is ∙ c.settings.ensures))
