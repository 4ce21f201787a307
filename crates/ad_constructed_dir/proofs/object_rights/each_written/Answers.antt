use Rattle.std.proofs.Common.{◌<◌, ◌&&◌, Bool, length, refl, sym, ap, ◌∙◌, arith, rules}
use Rattle.ad_access_dir.specs.Allowed.{allowed_below}
use Rattle.ad_constructed_dir.specs.Changing.{may_write}
use Rattle.ad_constructed_dir.specs.Writes.{writes_below}
use Rattle.ad_constructed_dir.proofs.ChangingLaws.{mask_there, writes_more, next_more}
use Rattle.ad_constructed_dir.proofs.object_rights.each_written.Goals as goal

pub each-init : goal.each-init
unfolding writes_below allowed_below
each-init c = (c.new-written.ensures.items, refl)

pub writes_allowed-so-requires-clause-placed : goal.writes_allowed-so-requires-clause-placed
writes_allowed-so-requires-clause-placed c = (
  c.args.class,
  record {
    own = c.requires.class;
    said = rw c.schema.ensures at c.allowed-allowed.ensures;
    are = c.requires.masks;
    place = c.each.invariant.1;
  },
)

pub further-next-requires : goal.further-next-requires
further-next-requires c = λ is.
    let inside : c.each.next < length c.args.masks.now =
    mask_there c.args.dir.now c.args.token.now c.args.number c.args.class c.each.place c.args.masks.now c.each.next
    (omega (arith, c.each-test.true, c.attr_count-place-end.ensures))
    (sym (rw c.schema.ensures at c.allowed-allowed.ensures) ∙ is) c.requires.masks c.each.invariant.1 in
    search rules

pub each-preserved : goal.each-preserved
each-preserved c = (
  writes_more c.args.dir.now c.args.token.now c.args.number c.args.class.0 c.each.place c.each.written.items
      c.push.new.self.items c.writes_allowed-so.result
      c.each.invariant.0
      (c.writes_allowed-so.ensures
      ∙ ap (λ (b : Bool). b && may_write c.args.dir.now c.args.token.now c.args.number c.each.place)
      (rw c.schema.ensures at c.allowed-allowed.ensures))
      c.in_ok-push.ensures.items,
  next_more c.args.dir.now.schema c.args.class.0 c.each.place c.each.next c.further-next.result c.allowed-allowed.result
      c.each.invariant.1 (rw c.schema.ensures at c.allowed-allowed.ensures) c.further-next.ensures,
)
