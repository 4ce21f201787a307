use Rattle.std.proofs.Common.{List, map, sym, subst, ap, ◌∙◌}
use Rattle.std.specs.Prelude.{filter_map}
use Rattle.ad_sd.specs.declared.parts.Sd.{Sd}
use Rattle.ad_sd.specs.Normal.{SpellsNormal}
use Rattle.ad_sd.specs.SdIn.{sd_in}
use Rattle.ad_sd.proofs.NormalReader.{spelled_in}
use Rattle.ad_dir_objects.specs.Seen.{held_seen}
use Rattle.ad_dir_model.specs.Objects.{object_at, sd_at}
use Rattle.ad_dir_model.specs.Changes.{goes_with, unlinked_held}
use Rattle.ad_change.proofs.Unlinked.{unlinked_made}
use Rattle.ad_change.proofs.unlinking.unlinking.Goals as goal

pub returns-clause-seen : goal.returns-clause-seen
returns-clause-seen c =
    let own : Sd = sd_at c.args.dir.now.objects c.args.number in
    let spelled : SpellsNormal own c.in_ok-bytes.bytes.items = subst (SpellsNormal own)
    (sym c.in_ok-bytes.ensures.items)
    (subst (λ (sd : Sd). SpellsNormal sd c.as_bytes.result.now) c.live_sd.ensures c.as_bytes.ensures) in
    unlinked_made (goes_with c.args.dir.now c.args.target) c.live_object-object.result.now
    (object_at c.args.dir.now.objects c.args.number)
    c.in_ok-copy.field-0 c.in_ok-all_kept.field-0 (sd_in c.in_ok-bytes.bytes.items) c.live_object-object.ensures
    c.in_ok-copy.ensures
    (c.in_ok-all_kept.ensures
    ∙ ap (λ (vs : List _). filter_map (unlinked_held (goes_with c.args.dir.now c.args.target)) (map held_seen vs))
    c.as_slice.ensures)
    (spelled_in c.in_ok-bytes.bytes.items own spelled)

pub returns-clause-normal : goal.returns-clause-normal
returns-clause-normal c =
    let own : Sd = sd_at c.args.dir.now.objects c.args.number in
    let spelled : SpellsNormal own c.in_ok-bytes.bytes.items = subst (SpellsNormal own)
    (sym c.in_ok-bytes.ensures.items)
    (subst (λ (sd : Sd). SpellsNormal sd c.as_bytes.result.now) c.live_sd.ensures c.as_bytes.ensures) in
    subst (λ (sd : Sd). SpellsNormal sd c.in_ok-bytes.bytes.items)
    (sym (spelled_in c.in_ok-bytes.bytes.items own spelled)) spelled
