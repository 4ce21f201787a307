use Rattle.std.proofs.Common.{◌∙◌, subst}
use Rattle.ad_sd.specs.declared.parts.Sd.{Sd}
use Rattle.ad_sd.specs.Normal.{SpellsNormal}
use Rattle.ad_dir_model.specs.Inheritance.{scratch}
use Rattle.cmd_store.proofs.StaleLaws.{placed_within, scratch_64}
use Rattle.cmd_store.proofs.stale.is_stale.Goals as goal

pub from_root-requires-clause-placed : goal.from_root-requires-clause-placed
from_root-requires-clause-placed c = placed_within c.args.dir.now c.args.number c.requires.sound c.requires.live

pub returns : goal.returns
returns c =
    let dir = c.args.dir.now in
    let scratched = subst (λ (sd : Sd). SpellsNormal sd c.as_bytes.result.now)
    (c.in_ok-scratch.ensures ∙ scratch_64 dir c.args.number) c.as_bytes.ensures in
    c.is_another.ensures (scratch dir c.args.number) scratched
