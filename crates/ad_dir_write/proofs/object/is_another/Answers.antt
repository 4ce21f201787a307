use Rattle.std.proofs.Common.{not, ap, subst, ◌∙◌}
use Rattle.ad_sd.specs.declared.parts.Sd.{Sd}
use Rattle.ad_sd.specs.Normal.{SpellsNormal}
use Rattle.ad_dir_model.specs.Objects.{sd_at}
use Rattle.ad_dir_write.proofs.ObjectLaws.{same_bytes}
use Rattle.ad_dir_write.proofs.object.is_another.Goals as goal

pub returns : goal.returns
returns c = λ sd s.
    c.ne.ensures ∙ ap not (same_bytes (sd_at c.args.dir.now.objects c.args.number) sd c.as_bytes.result.now
    c.args.bytes.now
    (subst (λ (own : Sd). SpellsNormal own c.as_bytes.result.now) c.live_sd.ensures c.as_bytes.ensures) s)
