use Rattle.std.proofs.Common.{List, sym, ap, ◌∙◌}
use Rattle.std.specs.List.{list_all}
use Rattle.ad_load_records.specs.declared.records.Record.{Record as Held}
use Rattle.ad_load_objects.specs.Objects.{is_no_root}
use Rattle.ad_load_records.specs.Seen.{seen}
use Rattle.ad_load_objects.proofs.Roots.{root_here, root_later, root_end}
use Rattle.ad_load_objects.proofs.order.has_root.Goals as goal

pub returns-then-is_object : goal.returns-then-is_object
returns-then-is_object c =
    c.are_no_roots.ensures
    ∙ ap (λ (rs : List Held). list_all (λ (other : Held). is_no_root (seen c.index-records-i.result) (seen other)) rs)
    c.behind.ensures
    ∙ sym (root_here c.args.records.now c.loop-i.i c.index-records-i.result c.loop-i-test.true
    (sym c.index-records-i.is) c.if-is_object.ensures)
    ∙ c.loop-i.invariant

pub loop-i-preserved : goal.loop-i-preserved
loop-i-preserved c = sym (root_later c.args.records.now c.loop-i.i c.index-records-i.result c.loop-i-test.true
    (sym c.index-records-i.is) c.if-is_object.ensures) ∙ c.loop-i.invariant

pub returns : goal.returns
returns c = sym (root_end c.args.records.now c.loop-i.i c.loop-i-test.false) ∙ c.loop-i.invariant
