use Rattle.std.proofs.Common.{◌∙◌}
use Rattle.row_store.proofs.Opening.{same_rows}
use Rattle.row_store.proofs.store.Store.resume.Goals as goal

pub returns : goal.returns
returns g c =
    same_rows g.S.Site c.args.site.now c.resume_in.new.site c.in_ok-store.store c.in_ok-store.rows
    c.in_ok-copies.copies (c.in_ok-copies.ensures ∙ c.as_slice.ensures.value) c.in_ok-store.ensures
