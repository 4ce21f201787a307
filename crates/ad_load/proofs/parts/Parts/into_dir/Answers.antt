use Rattle.std.proofs.Common.{sym, subst}
use Rattle.ad_dir_model.specs.Soundness.{IsSound}
use Rattle.ad_dir.proofs.StandingLaws.{sound_stand}
use Rattle.ad_load.specs.Seen.{parts_seen}
use Rattle.ad_load.proofs.parts.Parts.into_dir.Goals as goal

pub of-requires-clause-standing : goal.of-requires-clause-standing
of-requires-clause-standing c =
    let parts = c.self.inside in
    sound_stand (parts_seen parts.schema parts.objects.items parts.meta) (subst IsSound (sym c.self.view_is) c.requires)
