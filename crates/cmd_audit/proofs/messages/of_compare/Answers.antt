use Rattle.std.proofs.Common.{List, sym, ap, ◌∙◌}
use Rattle.ad_ldap.specs.declared.controls.Settings.{Settings}
use Rattle.ad_types.specs.Tried.{TriedValue}
use Rattle.ad_search.specs.Compared.{compared_of}
use Rattle.cmd_audit.specs.Tries.{with_settings}
use Rattle.cmd_audit.proofs.Given.{tried_as, tried_none}
use Rattle.cmd_audit.proofs.messages.of_compare.Goals as goal

pub returns-in-Ok : goal.returns-in-Ok
returns-in-Ok c =
    let tries : Settings → List TriedValue = λ s. compared_of c.args.dir.now c.args.token.now c.args.request.now in
    tried_as c.compared.result _ _ (ap (with_settings tries) (sym c.in-Ok.is ∙ c.settings.ensures)) c.compared.ensures

pub returns-in-Err : goal.returns-in-Err
returns-in-Err c =
    let tries : Settings → List TriedValue = λ s. compared_of c.args.dir.now c.args.token.now c.args.request.now in
    tried_none c.new.result c.new.ensures.items _ (ap (with_settings tries) (sym c.in-Err.is ∙ c.settings.ensures))
