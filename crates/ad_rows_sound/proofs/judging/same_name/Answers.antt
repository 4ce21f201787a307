use Rattle.std.proofs.Common.{List, ℕ, subst}
use Rattle.ad_dir_objects.specs.Seen.{objects_of}
use Rattle.ad_rows_sound.specs.Least.{IsLeast}
use Rattle.ad_rows_sound.specs.Parts.{IsLast, name_key}
use Rattle.ad_rows_sound.proofs.Keys.{least_name}
use Rattle.ad_rows_sound.proofs.Leasts.{least_own}
use Rattle.ad_rows_sound.proofs.judging.same_name.Goals as goal

pub returns : goal.returns
returns c =
    let objects = objects_of c.args.objects.now in
    let clash = subst (λ (keys : List (List ℕ)). IsLeast (IsLast keys) c.in_ok-place.place) c.in_ok-keys.ensures.keys
    c.in_ok-place.ensures in
    least_name objects c.number_at.result c.in_ok-keys.ensures.small
    (least_own name_key objects c.requires.rise c.in_ok-place.place c.number_at.result clash c.number_at.ensures)
