use Rattle.std.proofs.Common.{◌∙◌, inl, inr, refl, drop, Err, ap, sym}
use Rattle.std.proofs.lemmas.Result.{err_from_is_err_and}
use Rattle.row_store.specs.declared.fault.StoreFault.{StoreFault}
use Rattle.row_store.specs.declared.fault.StoreFault.TheVariants.{Spent}
use Rattle.row_store.proofs.Calls.{not_snapshot, refused_snapshot, done_snapshot}
use Rattle.row_store.proofs.store.Store.snapshot.Goals as goal

pub returns-then-is_spent : goal.returns-then-is_spent
returns-then-is_spent g c =
    let site = c.args.site.now in
    not_snapshot g.S.Site site c.args.self.now c.args.rows.now Spent (Err Spent) refl
    (inl (refl, sym c.is_spent.ensures ∙ c.if-is_spent.true)) c.requires.stands
    (λ t images out left. g.met.S.Site.left_until site t images out left)

pub returns-in_err-body : goal.returns-in_err-body
returns-in_err-body g c =
    let p = err_from_is_err_and c.from_residual.result c.from_residual.ensures.1 in
    let site = c.args.site.now in
    not_snapshot g.S.Site site c.args.self.now c.args.rows.now p.0 c.from_residual.result p.1
    (inr (p.2, sym c.is_spent.ensures ∙ c.if-is_spent.false)) c.requires.stands
    (λ t images out left. g.met.S.Site.left_until site t images out left)

pub returns-in_err-rewrite_in : goal.returns-in_err-rewrite_in
returns-in_err-rewrite_in g c =
    let p = err_from_is_err_and c.from_residual-in_err-rewrite_in.result c.from_residual-in_err-rewrite_in.ensures.1 in
    refused_snapshot g.S.Site c.args.site.now c.rewrite_in.new.site c.args.self.now c.rewrite_in.new.self
    c.args.rows.now (drop 22 c.in_ok-body.body.items) c.in_err-rewrite_in.field-0.0
    c.from_residual-in_err-rewrite_in.result (p.1 ∙ ap (λ (f : StoreFault). Err f) p.2) c.in_ok-body.ensures.spelled
    c.requires.table c.in_err-rewrite_in.ensures

pub returns : goal.returns
returns g c =
    done_snapshot g.S.Site c.args.site.now c.rewrite_in.new.site c.args.self.now c.rewrite_in.new.self c.args.rows.now
    (drop 22 c.in_ok-body.body.items) tt tt c.in_ok-body.ensures.spelled c.requires.table c.in_ok-rewrite_in.ensures
