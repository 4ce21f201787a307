use Rattle.std.proofs.Common.{Err, ap}
use Rattle.std.proofs.lemmas.Result.{err_from_is_err_and}
use Rattle.row_store.specs.Table.{table_of}
use Rattle.row_store.specs.declared.fault.StoreFault.{StoreFault}
use Rattle.ad_engine_store.proofs.Opening.{memory_opened, memory_answers, looks_not, told_full, told_none}
use Rattle.ad_engine_store.proofs.Opening.{told_not_empty}
use Rattle.ad_engine_store.proofs.Opening.{store_refused, rows_opened, rows_say, has_rows, has_read, opened, holds_dir}
use Rattle.ad_engine_store.proofs.dir_store.DirStore.resume.Goals as goal

pub returns-in_err-store-clause-only : goal.returns-in_err-store-clause-only
returns-in_err-store-clause-only g c =
    let r = g.S.Site.reads c.args.site.now in
    let fault = c.in_err-store.field-0.0 in
    let said = c.in_err-store.ensures in
    let p = err_from_is_err_and c.from_residual-in_err-store.result c.from_residual-in_err-store.ensures.1 in
    store_refused r fault p.0 c.from_residual-in_err-store.result p.1 p.2
    (λ is. said.faults.0 (ap (λ (f : StoreFault). Err f) is))
    (λ is. said.empty (ap (λ (f : StoreFault). Err f) is)) (λ is. said.broken (ap (λ (f : StoreFault). Err f) is))
    (told_full _ r fault said.complete) (told_none _ r fault said.complete_empty)

pub returns-in_err-dir-clause-opened : goal.returns-in_err-dir-clause-opened
returns-in_err-dir-clause-opened g c =
    let r = g.S.Site.reads c.args.site.now in
    let the_store = c.in_ok-store.store in
    let p = err_from_is_err_and c.from_residual-in_err-dir.result c.from_residual-in_err-dir.ensures.1 in
    rows_opened r the_store (table_of c.in_ok-store.rows.items) c.in_err-dir.field-0.0 p.0
    c.from_residual-in_err-dir.result p.1 p.2 (rw c.deref.ensures.value at c.in_err-dir.ensures.told)
    c.in_ok-store.ensures.rows

pub returns-in_err-dir-clause-only : goal.returns-in_err-dir-clause-only
returns-in_err-dir-clause-only g c =
    let r = g.S.Site.reads c.args.site.now in
    let p = err_from_is_err_and c.from_residual-in_err-dir.result c.from_residual-in_err-dir.ensures.1 in
    let say = rows_say (table_of c.in_ok-store.rows.items) c.in_err-dir.field-0.0 p.0
    c.from_residual-in_err-dir.result p.1 p.2 (rw c.deref.ensures.value at c.in_err-dir.ensures.row)
    (rw c.deref.ensures.value at c.in_err-dir.ensures.unsound) in
    has_rows r c.in_ok-store.store (table_of c.in_ok-store.rows.items) c.from_residual-in_err-dir.result say
    c.in_ok-store.ensures.rows
    (told_not_empty _ _ r c.in_ok-store.ensures.complete_empty)

pub returns-clause-opened : goal.returns-clause-opened
returns-clause-opened g c =
    let r = g.S.Site.reads c.args.site.now in
    opened r c.in_ok-store.store (table_of c.in_ok-store.rows.items) c.in_ok-dir.dir c.in_ok-store.ensures.rows
    (rw c.deref.ensures.value at c.in_ok-dir.ensures.rows) c.in_ok-dir.ensures.sound

pub returns-clause-only : goal.returns-clause-only
returns-clause-only g c =
    let r = g.S.Site.reads c.args.site.now in
    has_read r c.in_ok-store.store c.in_ok-store.rows.items c.in_ok-dir.dir _
    (rw c.deref.ensures.value at c.in_ok-dir.ensures.row)
    (rw c.deref.ensures.value at c.in_ok-dir.ensures.unsound)
    c.in_ok-store.ensures.rows (told_not_empty _ _ r c.in_ok-store.ensures.complete_empty)

pub returns-clause-stands : goal.returns-clause-stands
returns-clause-stands g c =
    λ _. record {
      sound = c.in_ok-dir.ensures.sound;
      held = holds_dir _ (g.S.Site.reads c.args.site.now) (g.S.Site.reads c.resume_in.new.site)
          (table_of c.in_ok-store.rows.items) c.in_ok-store.ensures.outside.held c.in_ok-store.ensures.rows
          (rw c.deref.ensures.value at c.in_ok-dir.ensures.rows);
      unspent = c.in_ok-store.ensures.unspent;
      store = c.in_ok-store.ensures.stands;
    }

pub returns-in_err-tokens-clause-opened : goal.returns-in_err-tokens-clause-opened
returns-in_err-tokens-clause-opened g c =
    let p = err_from_is_err_and c.from_residual.result c.from_residual.ensures.1 in
    memory_opened (g.S.Site.reads c.args.site.now) p.0 c.from_residual.result p.1 p.2

pub returns-in_err-tokens-clause-only : goal.returns-in_err-tokens-clause-only
returns-in_err-tokens-clause-only g c =
    let p = err_from_is_err_and c.from_residual.result c.from_residual.ensures.1 in
    memory_answers (g.S.Site.reads c.args.site.now) p.0 c.from_residual.result p.1 p.2

pub returns-in_err-tokens-clause-outside : goal.returns-in_err-tokens-clause-outside
returns-in_err-tokens-clause-outside g c = looks_not g.S.Site c.args.site.now
    (λ t images out left. g.met.S.Site.left_until c.args.site.now t images out left)
