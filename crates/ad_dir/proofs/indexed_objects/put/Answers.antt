use Rattle.std.proofs.Common.{sym, subst}
use Rattle.ad_sd.specs.SdIn.{sd_in}
use Rattle.ad_dir_objects.specs.Seen.{object_seen}
use Rattle.ad_dir_table.specs.Entry.{objects_in}
use Rattle.ad_dir_table.specs.Indexed.{IsIndexed}
use Rattle.ad_dir_table.proofs.ChildLaws.{lists_rise, is_new}
use Rattle.ad_dir_table.proofs.IndexLaws.{same_indexed, put_indexed}
use Rattle.ad_dir.proofs.indexed_objects.put.Goals as goal

pub edit-requires-clause-rise : goal.edit-requires-clause-rise
edit-requires-clause-rise c =
    let now = same_indexed c.args.schema.now c.args.index.now c.make_room.new.index
    (objects_in c.args.objects.now.entries) c.in_ok-make_room.ensures.same c.requires.indexed in
    lists_rise (objects_in c.args.objects.now.entries) c.make_room.new.index.children.entries c.requires.rise
    now.children

pub edit-requires-clause-new : goal.edit-requires-clause-new
edit-requires-clause-new c =
    let now = same_indexed c.args.schema.now c.args.index.now c.make_room.new.index
    (objects_in c.args.objects.now.entries) c.in_ok-make_room.ensures.same c.requires.indexed in
    is_new (object_seen c.args.object (sd_in c.args.bytes.now)) (objects_in c.args.objects.now.entries)
    c.in_ok-changes.changes.parents.to c.in_ok-changes.changes.parents.from c.make_room.new.index.children.entries
    c.requires.rise (c.in_ok-changes.ensures (sd_in c.args.bytes.now)).parents now.children

pub returns-clause-indexed : goal.returns-clause-indexed
returns-clause-indexed c =
    let now = same_indexed c.args.schema.now c.args.index.now c.make_room.new.index
    (objects_in c.args.objects.now.entries) c.in_ok-make_room.ensures.same c.requires.indexed in
    subst (IsIndexed c.args.schema.now c.edit.new.index) (sym c.in_ok-put.ensures.ok)
    (put_indexed c.args.schema.now c.make_room.new.index c.edit.new.index c.in_ok-changes.changes
    (object_seen c.args.object (sd_in c.args.bytes.now)) (objects_in c.args.objects.now.entries)
    c.requires.rise c.requires.own (c.in_ok-changes.ensures (sd_in c.args.bytes.now)) c.edit.ensures now)
