use Rattle.ad_dir_objects.specs.Seen.{meta_seen, objects_of}
use Rattle.ad_dir.proofs.StandingLaws.{sound_stand}
use Rattle.ad_rows_sound.specs.Parts.{dir_of}
use Rattle.ad_rows.proofs.reading.built.Goals as goal

pub of-requires : goal.of-requires
of-requires c = record {
  standing = sound_stand (dir_of c.args.schema (objects_of c.args.objects.items) c.args.pending.items
      (meta_seen c.args.meta)) c.requires;
  distinct = c.requires.distinct;
}
