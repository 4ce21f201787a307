use Rattle.ad_sd.specs.Seen.{seen}
use Rattle.ad_dir_objects.specs.Seen.{object_seen}
use Rattle.ad_dir_model.specs.Inheritance.{whole_at}
use Rattle.std.proofs.Common.{◌∙◌}
use Rattle.ad_change.proofs.Needed.{write_stood, write_needed}
use Rattle.ad_change.proofs.writing.write_edits.Goals as goal

pub returns-then-is_there : goal.returns-then-is_there
returns-then-is_there c =
    let dir = c.args.dir.now in
    let o = object_seen c.args.object (seen c.args.own) in
    write_stood dir o c.is_there.result c.new.result c.invariants.ensures.rise c.requires.live
    (c.is_there.ensures (whole_at dir o) (
      c.in_ok-bytes.ensures.0,
      c.as_slice.ensures.value
          ∙ c.in_ok-bytes.ensures.1,
    )) c.if-is_there.true c.new.ensures

pub returns : goal.returns
returns c =
    let dir = c.args.dir.now in
    let o = object_seen c.args.object (seen c.args.own) in
    write_needed dir o c.is_there.result c.marking.result
    (c.is_there.ensures (whole_at dir o) (
      c.in_ok-bytes.ensures.0,
      c.as_slice.ensures.value
          ∙ c.in_ok-bytes.ensures.1,
    )) c.if-is_there.false
    (c.marking.ensures (seen c.args.own) c.in_ok-bytes.ensures)
