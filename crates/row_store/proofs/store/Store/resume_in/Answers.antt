use Rattle.std.proofs.Common.{◌≡◌, ◌⊎◌, inl, inr, ⊎_elim, ◌∙◌, ℕ, List, Err, refl, ap, subst}
use Rattle.std.proofs.lemmas.Result.{err_from_is_err_and}
use Rattle.row_store.specs.declared.fault.StoreFault.{StoreFault}
use Rattle.row_store.specs.declared.fault.StoreFault.TheVariants.{Broken, Memory}
use Rattle.row_store.specs.declared.row.Row.{Row}
use Rattle.row_store.specs.Left.{table_in}
use Rattle.row_store.specs.Row.{SpellBatches}
use Rattle.row_store.proofs.Opening.{no_table, refused_resume, unread_resume, done_resume}
use Rattle.row_store.proofs.store.Store.resume_in.Goals as goal

pub returns-in_err-log : goal.returns-in_err-log
returns-in_err-log g c =
    let p = err_from_is_err_and c.from_residual.result c.from_residual.ensures.1 in
    refused_resume g.S.Site c.args.site.now c.resume_in.new.site (λ parts. parts.items) c.in_err-log.field-0.0
    c.from_residual.result (p.1 ∙ ap (λ (f : StoreFault). Err f) p.2) c.in_err-log.ensures

pub returns-in_err-left : goal.returns-in_err-left
returns-in_err-left g c =
    let p = err_from_is_err_and c.from_residual-in_err-left.result c.from_residual-in_err-left.ensures.1 in
    let fault = c.in_err-left.field-0.0 in
    let bodies = c.in_ok-log.bodies.items in
    let said = c.in_err-left.ensures in
    let may : (fault ≡ Broken) ⊎ (fault ≡ Memory) = ⊎_elim (λ a. inl (cc a)) (λ b. inr (cc b)) (said.faults refl) in
    unread_resume g.S.Site c.args.site.now c.resume_in.new.site bodies fault c.from_residual-in_err-left.result
    (p.1 ∙ ap (λ (f : StoreFault). Err f) p.2) may c.in_ok-log.ensures.outside c.in_ok-log.ensures.store
    (λ broken. no_table (g.S.Site.reads c.args.site.now) bodies c.in_ok-log.ensures.store c.in_ok-log.ensures.only
    (subst (λ (l : List (List ℕ)). (batches : List (List Row)) → SpellBatches batches l → ⊥) c.deref.ensures.value
    (said.broken (ap (λ (f : StoreFault). Err f) broken))))

pub returns : goal.returns
returns g c =
    let left = c.in_ok-left.ensures.left in
    done_resume g.S.Site c.args.site.now c.resume_in.new.site (λ parts. parts.items)
    (record { alloc = c.args.alloc; log = c.in_ok-log.log }) c.in_ok-log.bodies left.0 (table_in c.in_ok-left.left)
    c.in_ok-rows.rows c.in_ok-log.ensures
    (subst (λ (l : List (List ℕ)). SpellBatches left.0 l) c.deref.ensures.value left.1) left.2
    c.in_ok-rows.ensures.table c.in_ok-rows.ensures.listed
