use Rattle.std.proofs.Common.{◌≤◌, [], length, arith}
use Rattle.site_io.specs.Disk.{images_of}
use Rattle.ad_frames.specs.Frames.{frames_of}
use Rattle.cmd_store_open.specs.Lines.{objects_line}
use Rattle.ad_engine.specs.Runs.{after_first}
use Rattle.cmd_store_laws.proofs.story.served_across_a_crash.Goals as goal

pub returns-clause-ok : goal.returns-clause-ok
returns-clause-ok c =
    let loaded = c.in-Ok.ensures.ok in
    let crash = c.in_ok-crash.crash in
    let later : length c.in-Ok.site.disk.done.items ≤ c.saturating_add-at.result
    = omega (arith, c.calls.ensures, c.saturating_add-at.ensures) in
    let left = c.in_ok-before.ensures.crash loaded.0 (objects_line loaded.0) loaded.2 c.saturating_add-at.result
    (images_of crash.a.items crash.b.items) crash.out.items later c.in_ok-crash.ensures.left in
    let dir = after_first loaded.0 (frames_of c.args.frames.now).frames left.2.n in
    let holds = c.in_ok-left.ensures dir left.2.store in (
      loaded.0,
      loaded.1,
      record {
        emitted = left.0;
        output = left.1;
        crash = left.2;
        opens_before = c.in_ok-before.ensures.opens loaded.0 (objects_line loaded.0) loaded.2;
        opens_behind = c.in_ok-behind.ensures.opens dir [] holds;
        answers = c.in_ok-behind.ensures.answers dir [] holds;
      },
    )
