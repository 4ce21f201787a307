use Rattle.std.proofs.Common.{◌≡◌, ◌-◌, map, IfOk, sym, ap, subst, ◌∙◌, arith}
use Rattle.ad_ids.specs.declared.guid.Guid.{Guid}
use Rattle.ad_sd.specs.declared.parts.Sd.{Sd}
use Rattle.ad_sd.specs.Seen.{seen}
use Rattle.ad_inherit.specs.Whole.{whole}
use Rattle.ad_load.specs.Seen.{entry_seen}
use Rattle.ad_load.proofs.Settled.{seen_at, settled_first, settled_below}
use Rattle.ad_load.proofs.settle.settled_at.Goals as goal

pub overflow_sub-above : goal.overflow_sub-above
overflow_sub-above c =
    let item = c.index-objects-place.result in
    (c.requires.above (entry_seen item) (seen_at entry_seen c.args.objects.now c.args.place item c.requires.place
    (sym c.index-objects-place.is)) c.if-place-eq0.false).0

pub bounds-objects-own : goal.bounds-objects-own
bounds-objects-own c =
    let item = c.index-objects-place.result in
    let above = c.requires.above
    (entry_seen item) (seen_at entry_seen c.args.objects.now c.args.place item c.requires.place
    (sym c.index-objects-place.is)) c.if-place-eq0.false in
    omega (arith, above.0, above.1, c.requires.place)

pub returns-then-place-eq0 : goal.returns-then-place-eq0
returns-then-place-eq0 c =
    let item = c.index-objects-place.result in
    let at = seen_at entry_seen c.args.objects.now c.args.place item c.requires.place (sym c.index-objects-place.is) in
    subst (λ (x : Sd). IfOk c.root_sd.result (λ (sd : Sd). sd ≡ x))
    (sym (settled_first c.args.schema.now
    (map entry_seen c.args.objects.now) c.args.place
    (entry_seen item) c.if-place-eq0.true at)) c.root_sd.ensures

pub returns : goal.returns
returns c =
    let item = c.index-objects-place.result in
    let above = c.index-objects-own.result in
    let at = seen_at entry_seen c.args.objects.now c.args.place item c.requires.place (sym c.index-objects-place.is) in
    let range = c.requires.above (entry_seen item) at c.if-place-eq0.false in
    let at_above = seen_at entry_seen c.args.objects.now (item.0.parent - 1) above
    (omega (arith, range.0, range.1, c.requires.place)) (sym c.index-objects-own.is) in
    subst (λ (x : Sd). IfOk c.whole_again.result (λ (sd : Sd). sd ≡ x))
    (
    ap (λ (s : Sd). whole s (seen c.view-2.result) c.guid_of-class.result) c.view.ensures
    ∙ ap (λ (s : Sd). whole above.1 s c.guid_of-class.result) c.view-2.ensures
    ∙ ap (λ (g : Guid). whole above.1 item.1 g) c.guid_of-class.ensures
    ∙ sym (settled_below c.args.schema.now (map entry_seen c.args.objects.now) c.args.place (entry_seen item)
    (entry_seen above) c.if-place-eq0.false at at_above)
    ) c.whole_again.ensures
