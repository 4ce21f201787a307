use Rattle.std.proofs.Common.{List, ℕ, sym, subst}
use Rattle.ad_sd.specs.Normal.{SpellsNormal}
use Rattle.ad_dir_model.specs.Objects.{sd_at}
use Rattle.ad_dir_table.specs.Entry.{objects_in}
use Rattle.ad_dir_table.specs.Fields.{entries_of}
use Rattle.ad_dir_table.proofs.PoolLaws.{sd_live}
use Rattle.ad_dir_table.proofs.parts.sd.Goals as goal

pub returns-in-Some : goal.returns-in-Some
returns-in-Some c =
    let objects = objects_in (entries_of c.args.parts.now) in
    let sd = sd_at objects c.args.number in
    sd_live objects c.args.number _ c.in-Some.ensures.some
    (c.of_normal.ensures.only sd (subst (λ (bytes : List ℕ). SpellsNormal sd bytes) (sym c.bytes_at.ensures)
    c.in-Some.ensures.bytes))
