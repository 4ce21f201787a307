use Rattle.ad_dir_objects.specs.Seen.{object_seen}
use Rattle.ad_rows_sound.specs.Parts.{HasSid, sid_key}
use Rattle.ad_rows_sound.proofs.Finds.{keys_more}
use Rattle.ad_rows_sound.proofs.Growing.{all_more}
use Rattle.ad_rows_sound.proofs.finding.sid_keys.Goals as goal

pub loop-entry-preserved : goal.loop-entry-preserved
loop-entry-preserved c =
    let schema = c.args.schema.now in
    let objects = c.args.objects.now in
    let i = c.loop-entry.entry-index in
    let x = c.entry-item.result in
    let so_far = c.loop-entry.invariant in (
      keys_more (sid_key schema) objects i x c.loop-entry.keys.items c.push.new.self.items c.in_ok-key.key
          c.loop-entry-test.true c.entry-item.is so_far.0 (c.in_ok-key.ensures.key x.1) c.in_ok-push.ensures.items,
      all_more (HasSid schema) (λ e. object_seen e.0 e.1) objects i x c.loop-entry-test.true c.entry-item.is so_far.1
          (c.in_ok-key.ensures.is x.1),
    )
