use Rattle.std.proofs.Common.{sym, subst}
use Rattle.ad_sd.specs.Normal.{SpellsNormal}
use Rattle.ad_sd.specs.Seen.{seen}
use Rattle.ad_dir_objects.specs.Seen.{object_seen}
use Rattle.ad_change.proofs.Needed.{put_stood, put_needed}
use Rattle.ad_change.proofs.writing.put_edits.Goals as goal

pub returns-then-is_there : goal.returns-then-is_there
returns-then-is_there c =
    put_stood c.args.dir.now (object_seen c.args.object (seen c.args.sd)) c.is_there.result c.new.result
    c.invariants.ensures.rise c.requires
    (c.is_there.ensures (seen c.args.sd) c.as_bytes.ensures) c.if-is_there.true c.new.ensures

pub returns : goal.returns
returns c =
    put_needed c.args.dir.now (object_seen c.args.object (seen c.args.sd)) c.is_there.result c.put_of.result
    (c.is_there.ensures (seen c.args.sd) c.as_bytes.ensures) c.if-is_there.false
    (c.put_of.ensures (seen c.args.sd) (subst (SpellsNormal (seen c.args.sd)) (sym c.in_ok-bytes.ensures.items)
    c.as_bytes-2.ensures))
