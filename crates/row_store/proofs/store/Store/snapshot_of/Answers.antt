use Rattle.std.proofs.Common.{◌∙◌, inl, refl, drop, Err, ap, sym}
use Rattle.std.proofs.lemmas.Result.{err_from_is_err_and}
use Rattle.row_store.specs.declared.fault.StoreFault.{StoreFault}
use Rattle.row_store.specs.declared.fault.StoreFault.TheVariants.{Spent}
use Rattle.row_store.proofs.Calls.{none_replaced, refused_replace, done_replace}
use Rattle.row_store.proofs.store.Store.snapshot_of.Goals as goal

pub returns-then-is_spent : goal.returns-then-is_spent
returns-then-is_spent g c =
    let site = c.args.site.now in
    none_replaced g.S.Site site c.args.self.now c.args.rows Spent (Err Spent) refl
    (inl (refl, sym c.is_spent.ensures ∙ c.if-is_spent.true)) c.requires.stands
    (λ t images out left. g.met.S.Site.left_until site t images out left)

pub returns-in_err-rewrite_in : goal.returns-in_err-rewrite_in
returns-in_err-rewrite_in g c =
    let p = err_from_is_err_and c.from_residual.result c.from_residual.ensures.1 in
    refused_replace g.S.Site c.args.site.now c.rewrite_in.new.site c.args.self.now c.rewrite_in.new.self c.args.rows
    (drop 22 c.into_body.result.items) c.in_err-rewrite_in.field-0.0 c.from_residual.result
    (p.1 ∙ ap (λ (f : StoreFault). Err f) p.2) c.into_body.ensures.spelled c.in_err-rewrite_in.ensures

pub returns : goal.returns
returns g c =
    done_replace g.S.Site c.args.site.now c.rewrite_in.new.site c.args.self.now c.rewrite_in.new.self c.args.rows
    (drop 22 c.into_body.result.items) tt tt c.into_body.ensures.spelled c.in_ok-rewrite_in.ensures
