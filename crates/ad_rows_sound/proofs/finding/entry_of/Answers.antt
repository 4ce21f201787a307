use Rattle.std.proofs.Common.{◌≡◌, ℕ, Some, sym, subst}
use Rattle.ad_dir_objects.specs.Seen.{object_seen, objects_of}
use Rattle.ad_dir_model.specs.Object.{Object}
use Rattle.ad_dir_model.specs.Objects.{object_of}
use Rattle.ad_rows_sound.proofs.Leasts.{got, found_at}
use Rattle.ad_rows_sound.proofs.finding.entry_of.Goals as goal

pub returns-in-Ok : goal.returns-in-Ok
returns-in-Ok c =
    let objects = c.args.objects.now in
    let item = c.index-objects-place.result in
    let seen : Object = object_seen item.0 item.1 in
    let at = got objects c.in-Ok.place item c.in-Ok.ensures.within c.index-objects-place.is in
    let number : seen.number ≡ c.args.number = c.in-Ok.ensures.found seen at in
    subst (λ (n : ℕ). Some seen ≡ object_of (objects_of objects) n) number
    (sym (found_at 0 (objects_of objects) c.requires c.in-Ok.place seen at))
