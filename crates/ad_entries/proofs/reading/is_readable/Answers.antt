use Rattle.ad_types.specs.Path.{guids_of}
use Rattle.ad_entries.proofs.ReadLaws.{never_read, readable_by}
use Rattle.ad_entries.proofs.reading.is_readable.Goals as goal

pub returns-then-is_never_read : goal.returns-then-is_never_read
returns-then-is_never_read c =
    never_read c.args.dir.now c.args.token.now c.args.number c.args.attr.0 c.args.info.now
    (rw c.as_slice.ensures at c.if-is_never_read.ensures)

pub returns : goal.returns
returns c =
    readable_by c.args.dir.now c.args.token.now c.args.number c.args.attr c.class_of.result
    (guids_of c.path-path.result) c.args.info.now c.reads_on.result
    (rw c.as_slice.ensures at c.if-is_never_read.ensures) (rw c.schema.ensures at c.path-path.ensures)
    c.class_of.ensures.class c.reads_on.ensures
