use Rattle.std.proofs.Common.{◌∙◌, Err, ap}
use Rattle.std.proofs.lemmas.Result.{err_from_is_err_and}
use Rattle.gate_log.proofs.Outside.{looks_not}
use Rattle.row_store.specs.declared.fault.StoreFault.{StoreFault}
use Rattle.row_store.proofs.Creating.{no_create}
use Rattle.row_store.proofs.store.Store.create.Goals as goal

pub returns-in_err-rows : goal.returns-in_err-rows
returns-in_err-rows g c =
    let p = err_from_is_err_and c.from_residual.result c.from_residual.ensures.1 in
    let site = c.args.site.now in
    no_create g.S.Site site site c.args.rows.now c.from_residual.result
    (p.1 ∙ ap (λ (f : StoreFault). Err f) p.2)
    (looks_not g.S.Site site (λ t images out left. g.met.S.Site.left_until site t images out left))
