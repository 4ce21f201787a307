use Rattle.std.proofs.Common.{◌<◌, ◌&&◌, Bool, length, sym, ap, ◌∙◌, rules}
use Rattle.ad_constructed_dir.specs.Changing.{may_write}
use Rattle.ad_constructed_dir.proofs.ChangingLaws.{mask_there, written_by}
use Rattle.ad_constructed_dir.proofs.object_rights.writes_allowed.Goals as goal

pub offset_bounds-masks-next : goal.offset_bounds-masks-next
offset_bounds-masks-next c =
    let placed = c.requires.placed.1 in
    let inside : c.args.next < length c.args.masks.now =
    mask_there c.args.dir.now c.args.token.now c.args.number c.requires.placed.0 c.args.attr.0 c.args.masks.now
    c.args.next c.requires.attr (sym placed.said ∙ c.if-not-allowed.false) placed.are placed.place in
    search rules

pub bounds-masks-next : goal.bounds-masks-next
bounds-masks-next c =
    let placed = c.requires.placed.1 in
    mask_there c.args.dir.now c.args.token.now c.args.number c.requires.placed.0 c.args.attr.0 c.args.masks.now
    c.args.next c.requires.attr (sym placed.said ∙ c.if-not-allowed.false) placed.are placed.place

pub returns : goal.returns
returns c =
    let placed = c.requires.placed.1 in
    written_by c.args.dir.now c.args.token.now c.args.number c.requires.placed.0 c.args.attr c.attr_info.result.now
    c.args.masks.now c.args.next c.args.allowed c.writes.result
    (rw c.schema.ensures at c.attr_info.ensures) placed.said c.if-not-allowed.false placed.own placed.are placed.place
    c.writes.ensures
    ∙ ap (λ (b : Bool). b && may_write c.args.dir.now c.args.token.now c.args.number c.args.attr.0) (sym placed.said)
