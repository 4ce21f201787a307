use Rattle.std.proofs.Common.{ℕ, ◌+◌, ◌<◌, List, length, take, sym, subst, ap, ◌∙◌}
use Rattle.std.proofs.lemmas.List.{length-map}
use Rattle.ad_ldap.specs.declared.items.Item.{Item}
use Rattle.ad_schema.specs.declared.line.SchemaRecord.{SchemaRecord}
use Rattle.ad_schema.specs.Attributes.{attr_named}
use Rattle.ad_needs.specs.Decoding.{attr_of}
use Rattle.ad_needs.specs.ItemWords.{AreNamed}
use Rattle.ad_needs.proofs.DecodingLaws.{at_place}
use Rattle.ad_needs.proofs.FirstLaws.{written_back}
use Rattle.ad_needs.proofs.ModifyLaws.{needs_stop, needs_go_on, needs_end, taken_more}
use Rattle.ad_needs.proofs.ItemLaws.{items_stop, items_go_on, items_end}
use Rattle.ad_needs.proofs.modify_needs.needs_refusal.Goals as goal

pub attr_at-attr-requires : goal.attr_at-attr-requires
attr_at-attr-requires c =
    let d = c.args.decoded.now in
    subst (λ (n : ℕ). c.each.i < n)
    (sym (ap length c.requires.decoded.placed ∙ length-map d.items.now (attr_of c.args.dir.now.schema))) c.each-test.true

pub is_first-first-requires-clause-attr : goal.is_first-first-requires-clause-attr
is_first-first-requires-clause-attr c =
    let d = c.args.decoded.now in
    c.attr_at-attr.ensures
    ∙ at_place c.args.dir.now.schema d.items.now c.each.i c.index-items-i.result d.attrs.items
    c.requires.decoded.placed c.each-test.true c.index-items-i.is
    ∙ ap (λ (s : List SchemaRecord). attr_of s c.index-items-i.result) (sym c.schema-in-each.ensures)

pub refusal_if-requires-clause-attr : goal.refusal_if-requires-clause-attr
refusal_if-requires-clause-attr c =
    let d = c.args.decoded.now in
    c.attr_at-attr.ensures
    ∙ at_place c.args.dir.now.schema d.items.now c.each.i c.index-items-i.result d.attrs.items
    c.requires.decoded.placed c.each-test.true c.index-items-i.is
    ∙ ap (attr_named c.args.dir.now.schema) (sym c.as_slice-name.ensures)

pub returns-in-Some-clause-refusal : goal.returns-in-Some-clause-refusal
returns-in-Some-clause-refusal c =
    let d = c.args.decoded.now in
    needs_stop c.args.dir.now c.args.token.now c.args.number d.flags d.items.now c.each.i
    c.index-items-i.result c.is_first-first.result c.in-Some.verdict
    c.each-test.true c.index-items-i.is c.is_first-first.ensures.first
    (rw (c.in-Some.is, c.as_slice-name.ensures) at c.in_ok-verdict.ensures.refusal) c.each.invariant.said

pub returns-in-Some-clause-steps : goal.returns-in-Some-clause-steps
returns-in-Some-clause-steps c =
    let d = c.args.decoded.now in
    items_stop c.args.dir.now c.args.token.now c.args.number d.flags d.items.now c.each.i
    c.index-items-i.result c.is_first-first.result _ c.in-Some.verdict
    c.args.trace.now c.each.trace c.refusal_if.new.trace
    c.each-test.true c.index-items-i.is c.is_first-first.ensures.first c.in-Some.is
    (rw c.as_slice-name.ensures at c.in_ok-verdict.ensures.steps) c.each.invariant.steps

pub each-preserved : goal.each-preserved
each-preserved c =
    let d = c.args.decoded.now in
    record {
      said = needs_go_on c.args.dir.now c.args.token.now c.args.number d.flags d.items.now c.each.i
          c.index-items-i.result c.is_first-first.result
          c.each-test.true c.index-items-i.is c.is_first-first.ensures.first
          (rw (c.in_default.is, c.as_slice-name.ensures) at c.in_ok-verdict.ensures.refusal) c.each.invariant.said;
      steps = items_go_on c.args.dir.now c.args.token.now c.args.number d.flags d.items.now c.each.i
          c.index-items-i.result c.is_first-first.result _
          c.args.trace.now c.each.trace c.refusal_if.new.trace
          c.each-test.true c.index-items-i.is c.is_first-first.ensures.first c.in_default.is
          (rw c.as_slice-name.ensures at c.in_ok-verdict.ensures.steps) c.each.invariant.steps;
      named = written_back (λ (item : Item). item.attr) c.args.dir.now.schema c.is_first-first.new.named
          c.each.named.items c.each.named.len (take (c.each.i + 1) d.items.now)
          (c.is_first-first.auto.named ∙ c.as_mut_slice.ensures.len)
          (subst (AreNamed c.args.dir.now.schema c.is_first-first.new.named)
          (taken_more d.items.now c.each.i c.index-items-i.result c.each-test.true c.index-items-i.is)
          (rw c.schema-in-each.ensures at c.is_first-first.ensures.named));
    }

pub returns-clause-refusal : goal.returns-clause-refusal
returns-clause-refusal c =
    let d = c.args.decoded.now in
    needs_end c.args.dir.now c.args.token.now c.args.number d.flags d.items.now
    c.each.i c.each-test.false c.each.invariant.said

pub returns-clause-steps : goal.returns-clause-steps
returns-clause-steps c =
    let d = c.args.decoded.now in
    items_end c.args.dir.now c.args.token.now c.args.number d.flags d.items.now
    c.each.i c.args.trace.now c.each.trace c.each-test.false c.each.invariant.steps
