use Rattle.std.proofs.Common.{sym, ◌∙◌}
use Rattle.std.proofs.lemmas.Result.{err_from_is_err_and}
use Rattle.ad_load_records.specs.Seen.{held_field}
use Rattle.ad_load_objects.specs.Objects.{with_class, classes_named}
use Rattle.ad_load_objects.proofs.Through.{one_through, one_stops, all_through}
use Rattle.ad_load_objects.proofs.classes.classes_named.Goals as goal

pub returns-in_err-add_class-clause-made : goal.returns-in_err-add_class-clause-made
unfolding classes_named
returns-in_err-add_class-clause-made c =
    let p = err_from_is_err_and c.from_residual-in_err-add_class.result c.from_residual-in_err-add_class.ensures.1 in
    rw (p.1, p.2) (λ m. sym c.loop-field.invariant.made ∙ one_stops
    (with_class c.args.schema.now c.args.line) held_field c.args.fields.now c.loop-field.field-index
    c.field-item.result c.loop-field.classes.items c.in_err-add_class.field-0.0 c.loop-field-test.true
    (sym c.field-item.is) (c.in_err-add_class.ensures.made m))

pub loop-field-preserved : goal.loop-field-preserved
loop-field-preserved c = record {
  made =
      sym (one_through
      (with_class c.args.schema.now c.args.line) held_field c.args.fields.now c.loop-field.field-index
      c.field-item.result c.loop-field.classes.items c.add_class.new.classes.items c.loop-field-test.true
      (sym c.field-item.is) c.in_ok-add_class.ensures.made)
      ∙ c.loop-field.invariant.made;
  found = c.in_ok-add_class.ensures.found;
}

pub returns-clause-made : goal.returns-clause-made
unfolding classes_named
returns-clause-made c = sym c.loop-field.invariant.made
    ∙ all_through
    (with_class c.args.schema.now c.args.line) held_field c.args.fields.now c.loop-field.field-index
    c.loop-field.classes.items c.loop-field-test.false
