use Rattle.std.proofs.Common.{sym}
use Rattle.ad_dir.proofs.NameLaws.{service_lives}
use Rattle.ad_dir.proofs.settings.setting.Goals as goal

pub setting_of-requires : goal.setting_of-requires
setting_of-requires c = service_lives c.args.dir.now c.in-Some.number c.invariants.ensures.rise (sym c.in-Some.ensures)
