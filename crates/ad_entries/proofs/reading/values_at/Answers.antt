use Rattle.std.proofs.Common.{Some, sym, ap, ◌∙◌}
use Rattle.ad_entries.specs.Seen.{readable_at}
use Rattle.ad_entries.proofs.ReadLaws.{readable_is, not_readable, is_read}
use Rattle.ad_entries.proofs.reading.values_at.Goals as goal

pub returns-then-not-is_readable : goal.returns-then-not-is_readable
returns-then-not-is_readable c =
    let info = c.attr_info-info.result.now in
    let there = rw c.schema.ensures at c.attr_info-info.ensures in
    sym (readable_is c.args.dir.now c.args.token.now c.args.number c.args.attr info there
    ∙ ap (readable_at info) (not_readable c.args.dir.now c.args.token.now c.args.number c.args.attr.0 info
    (sym c.if-not-is_readable.ensures)))

pub returns : goal.returns
returns c =
    let info = c.attr_info-info.result.now in
    let there = rw c.schema.ensures at c.attr_info-info.ensures in
    sym (
    readable_is c.args.dir.now c.args.token.now c.args.number c.args.attr info there
    ∙ ap (readable_at info) (is_read c.args.dir.now c.args.token.now c.args.number c.args.attr.0 info
    (sym c.if-not-is_readable.ensures) ∙ ap Some (sym c.in_ok-values.ensures)))
