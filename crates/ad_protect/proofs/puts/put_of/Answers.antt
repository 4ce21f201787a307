use Rattle.std.proofs.Common.{List, ℕ, ap, ◌∙◌}
use Rattle.std.specs.Option.{option_map}
use Rattle.ad_sd.specs.SdIn.{sd_in}
use Rattle.ad_dir_objects.specs.declared.object.Object.{Object}
use Rattle.ad_dir_objects.specs.Seen.{object_seen}
use Rattle.ad_dir_model.specs.Object.{Object as Model}
use Rattle.ad_dir_model.specs.Objects.{sd_at}
use Rattle.ad_dir_model.specs.Directory.{put_object}
use Rattle.ad_protect.specs.Putting.{mark_seen, sd_given}
use Rattle.ad_protect.proofs.Applying.{put_seen}
use Rattle.ad_protect.proofs.puts.put_of.Goals as goal

pub returns-clause-seen : goal.returns-clause-seen
returns-clause-seen c =
    let dir = c.args.dir.now in
    let own = sd_at dir.objects c.args.number in
    ap (λ (o : Model). put_object o)
    (ap (λ (bytes : List ℕ). object_seen c.in_ok-object-2.object (sd_in bytes))
    (c.in_ok-bytes.ensures.items ∙ c.as_slice.ensures.value)
    ∙ put_seen dir (sd_given c.args.given.now) own c.args.number c.in_ok-object.object c.in_ok-object-2.object
    c.is_marked-has.result (option_map mark_seen c.args.given.now.mark)
    (ap (λ (o : Object). object_seen o own) c.in_ok-object.ensures ∙ c.live_object.ensures)
    c.requires.given.mark c.is_marked-has.ensures (c.in_ok-object-2.ensures (sd_given c.args.given.now)))
