use Rattle.std.proofs.lemmas.Result.{err_from_is_err_and}
use Rattle.row_store.specs.Table.{table_of}
use Rattle.ad_engine_store.proofs.Opening.{opened, holds_rows, memory_creating, refused_creating}
use Rattle.ad_engine_store.proofs.creating.store_of.Goals as goal

pub returns-in_err-tokens-clause-creating : goal.returns-in_err-tokens-clause-creating
returns-in_err-tokens-clause-creating g c =
    let p = err_from_is_err_and c.from_residual.result c.from_residual.ensures.1 in
    memory_creating _ g.S.Site c.args.site.now (g.met.S.Site.left_until c.args.site.now) p.0 c.from_residual.result
    p.1 p.2

pub returns-in_err-rows-clause-creating : goal.returns-in_err-rows-clause-creating
returns-in_err-rows-clause-creating g c =
    let p = err_from_is_err_and c.from_residual-in_err-rows.result c.from_residual-in_err-rows.ensures.1 in
    memory_creating _ g.S.Site c.args.site.now (g.met.S.Site.left_until c.args.site.now) p.0
    c.from_residual-in_err-rows.result p.1 p.2

pub returns-in_err-store-clause-creating : goal.returns-in_err-store-clause-creating
returns-in_err-store-clause-creating g c =
    let p = err_from_is_err_and c.from_residual-in_err-store.result c.from_residual-in_err-store.ensures.1 in
    refused_creating _ g.S.Site c.args.site.now c.create_of.new.site c.in_ok-rows.rows c.in_err-store.field-0.0 p.0
    c.from_residual-in_err-store.result p.1 p.2 c.in_err-store.ensures

pub returns-clause-held : goal.returns-clause-held
returns-clause-held g c =
    opened (g.S.Site.reads c.create_of.new.site) c.in_ok-store.store (table_of c.in_ok-rows.rows) c.args.dir.now
    c.in_ok-store.ensures.created
    c.in_ok-rows.ensures.rows c.requires

pub returns-clause-kept : goal.returns-clause-kept
returns-clause-kept g c = record {
  held = holds_rows (g.S.Site.reads c.create_of.new.site) c.in_ok-store.store (table_of c.in_ok-rows.rows)
      c.args.dir.now
      c.in_ok-store.ensures.created c.in_ok-rows.ensures.rows;
  unspent = c.in_ok-store.ensures.unspent;
  store = c.in_ok-store.ensures.stands;
}
