use Rattle.std.proofs.Common.{◌≡◌, true, sym, subst}
use Rattle.std.specs.Prelude.{IfOk}
use Rattle.ad_ldap.specs.declared.requests.Op.{Op}
use Rattle.ad_ldap.specs.MessageValue.{op_seen}
use Rattle.ad_types.specs.Tried.{tried_values}
use Rattle.ad_needs_rules.specs.Verdicts.{verdict_of}
use Rattle.ad_needs.specs.Tries.{tries}
use Rattle.ad_needs.specs.Traces.{requirements, reaches}
use Rattle.ad_needs.proofs.tracing.tried_by.Goals as goal

pub tried_renaming-requires : goal.tried_renaming-requires
tried_renaming-requires c = (
  c.args.settings.now,
  subst (λ (op : Op). reaches (verdict_of c.args.dir.now c.args.token.now (op_seen op) c.args.settings.now) ≡ true)
      c.in-Rename.is c.requires,
)

pub returns-in-Rename : goal.returns-in-Rename
returns-in-Rename c =
    subst (λ (op : Op). IfOk c.tried_renaming.result (λ tried. tried_values tried.items
    ≡ tries c.args.dir.now c.args.token.now (requirements c.args.dir.now c.args.token.now (op_seen op)
    c.args.settings.now))) (sym c.in-Rename.is) (c.tried_renaming.ensures c.args.settings.now)
