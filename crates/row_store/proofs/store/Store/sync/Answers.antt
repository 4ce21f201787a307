use Rattle.std.proofs.Common.{◌∙◌, Err, ap}
use Rattle.std.proofs.lemmas.Result.{err_from_is_err_and}
use Rattle.row_store.specs.declared.fault.StoreFault.{StoreFault}
use Rattle.row_store.proofs.Syncing.{refused_sync, done_sync}
use Rattle.row_store.proofs.store.Store.sync.Goals as goal

pub returns-in_err-sync : goal.returns-in_err-sync
returns-in_err-sync g c =
    let p = err_from_is_err_and c.from_residual.result c.from_residual.ensures.1 in
    refused_sync g.S.Site c.args.site.now c.sync.new.site c.args.self.now c.sync.new.self c.in_err-sync.field-0.0
    c.from_residual.result (p.1 ∙ ap (λ (f : StoreFault). Err f) p.2) c.in_err-sync.ensures

pub returns : goal.returns
returns g c =
    done_sync g.S.Site c.args.site.now c.sync.new.site c.args.self.now c.sync.new.self tt tt c.in_ok-sync.ensures
