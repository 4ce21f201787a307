use Rattle.std.proofs.Common.{◌∙◌, ℕ, List, sym, ap, arith}
use Rattle.std.specs.Prelude.{slice_get}
use Rattle.ad_control_lines.proofs.Owning.{stands_low}
use Rattle.ad_control_lines.proofs.texts.tables_of.Goals as goal

pub owners_of-requires : goal.owners_of-requires
owners_of-requires c = λ place x at.
    let low = stands_low c.args.dir.now c.args.graph.now.nodes.items c.args.ground.now place x c.requires
    (ap (λ (l : List ℕ). slice_get l place) (sym c.as_slice.ensures.value) ∙ at) in
    omega (arith, low, c.len-2.ensures)
