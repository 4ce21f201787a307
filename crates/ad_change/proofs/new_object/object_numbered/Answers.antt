use Rattle.std.proofs.Common.{map, ap, ◌∙◌}
use Rattle.std.specs.Option.{option_copied}
use Rattle.ad_dir_objects.specs.Seen.{held_seen}
use Rattle.ad_dir_model.specs.Directory.{Meta}
use Rattle.ad_change.proofs.AddLaws.{numbered_made}
use Rattle.ad_change.proofs.new_object.object_numbered.Goals as goal

pub returns : goal.returns
returns c = λ sd.
    numbered_made c.args.dir.now c.args.parent c.args.class c.in_ok-own.own c.args.name.now
    (map held_seen c.args.held.items) c.from_vec-values.result
    c.meta-meta.result.now.next_number (option_copied c.args.sid) sd
    (ap (λ (m : Meta). m.next_number) c.meta-meta.ensures) c.in_ok-own.ensures c.requires.sid
    (ap (map held_seen) c.from_vec-values.ensures ∙ c.in_ok-with_sid.ensures)
