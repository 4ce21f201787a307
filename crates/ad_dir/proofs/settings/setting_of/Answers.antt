use Rattle.std.proofs.Common.{sym, subst}
use Rattle.std.specs.Str.{IsUtf8}
use Rattle.ad_dir_model.specs.Objects.{object_at}
use Rattle.ad_dir_model.proofs.Finding.{of-live}
use Rattle.ad_dir.proofs.ShownLaws.{heuristics_text}
use Rattle.ad_dir.proofs.settings.setting_of.Goals as goal

pub setting_at-requires : goal.setting_at-requires
setting_at-requires c =
    let dir = c.args.dir.now in
    let o = object_at dir.objects c.args.number in
    subst IsUtf8 (sym c.shown.ensures) (heuristics_text dir.schema o c.in-Some.value.now
    (c.invariants.ensures.content c.args.number o (of-live dir.objects c.args.number c.requires))
    (sym c.in-Some.ensures))
