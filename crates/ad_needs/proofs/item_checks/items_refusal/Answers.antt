use Rattle.std.proofs.Common.{ℕ, ◌<◌, length, sym, subst, ap, ◌∙◌}
use Rattle.std.proofs.lemmas.List.{length-map}
use Rattle.ad_needs_rules.specs.Modifying.{item_checks}
use Rattle.ad_needs.specs.Decoding.{attr_of}
use Rattle.ad_needs.proofs.DecodingLaws.{at_place, sole_part}
use Rattle.ad_needs.proofs.ModifyLaws.{item_stops, item_goes_on, items_end}
use Rattle.ad_needs.proofs.item_checks.items_refusal.Goals as goal

pub attr_at-attr-requires : goal.attr_at-attr-requires
attr_at-attr-requires c =
    let d = c.args.decoded.now in
    subst (λ (n : ℕ). c.each.i < n)
    (sym (ap length c.requires.decoded.placed ∙ length-map d.items.now (attr_of c.args.dir.now.schema))) c.each-test.true

pub item_refusal-requires : goal.item_refusal-requires
item_refusal-requires c =
    let d = c.args.decoded.now in
    record {
      live = c.requires.live;
      attr = c.attr_at-attr.ensures ∙ at_place c.args.dir.now.schema d.items.now c.each.i c.index-items-i.result
          d.attrs.items c.requires.decoded.placed c.each-test.true c.index-items-i.is;
      sole = λ is one. sole_part d.items.now d.flags c.each.i c.index-items-i.result d.sd c.requires.decoded.written
          c.each-test.true c.index-items-i.is is one;
    }

pub returns-in-Some : goal.returns-in-Some
returns-in-Some c =
    let d = c.args.decoded.now in
    item_stops (item_checks c.args.dir.now c.args.number d.flags d.items.now) d.items.now
    c.each.i c.index-items-i.result c.in-Some.verdict
    c.each-test.true c.index-items-i.is (rw c.in-Some.is at c.in_ok-verdict.ensures) c.each.invariant

pub each-preserved : goal.each-preserved
each-preserved c =
    let d = c.args.decoded.now in
    item_goes_on (item_checks c.args.dir.now c.args.number d.flags d.items.now) d.items.now
    c.each.i c.index-items-i.result
    c.each-test.true c.index-items-i.is (rw c.in_default.is at c.in_ok-verdict.ensures) c.each.invariant

pub returns : goal.returns
returns c =
    let d = c.args.decoded.now in
    items_end (item_checks c.args.dir.now c.args.number d.flags d.items.now) d.items.now
    c.each.i c.each-test.false c.each.invariant
