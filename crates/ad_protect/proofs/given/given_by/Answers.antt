use Rattle.std.proofs.Common.{ap, sym, subst, ◌∙◌}
use Rattle.ad_sd.specs.declared.parts.Sd.{Sd}
use Rattle.ad_sd.specs.Normal.{SpellsNormal}
use Rattle.ad_sd.proofs.NormalReader.{spelled_in}
use Rattle.ad_dir_model.specs.Objects.{sd_at}
use Rattle.ad_dir_model.specs.Protection.{frozen, admin_count}
use Rattle.ad_protect.proofs.given.given_by.Goals as goal

pub returns-clause-is : goal.returns-clause-is
returns-clause-is c = record {
  normal = subst (λ (sd : Sd). SpellsNormal sd c.in_ok-sd.sd.items)
      (sym (spelled_in c.in_ok-sd.sd.items (frozen (sd_at c.args.dir.now.objects c.args.holder)) c.in_ok-sd.ensures))
      c.in_ok-sd.ensures;
  mark = c.in_ok-mark.ensures ∙ ap admin_count c.schema.ensures;
}

pub returns-clause-sd : goal.returns-clause-sd
returns-clause-sd c = spelled_in c.in_ok-sd.sd.items (frozen (sd_at c.args.dir.now.objects c.args.holder))
    c.in_ok-sd.ensures
