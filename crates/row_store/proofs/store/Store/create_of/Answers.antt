use Rattle.std.proofs.Common.{drop}
use Rattle.row_store.proofs.Creating.{done_create}
use Rattle.row_store.proofs.store.Store.create_of.Goals as goal

pub returns : goal.returns
returns g c =
    done_create g.S.Site c.args.site.now c.create_in.new.site c.args.rows (drop 22 c.into_body.result.items)
    (record { alloc = c.args.alloc; log = c.in_ok-log.log }) c.into_body.ensures.spelled c.in_ok-log.ensures
