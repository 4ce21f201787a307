use Rattle.std.proofs.Common.{◌≡◌, ◌∙◌, ◌+◌, List, ℕ, None, Some, drop, sym, ap, arith}
use Rattle.std.specs.Prelude.{option_map}
use Rattle.ad_schema.specs.declared.info.ClassId.{ClassId}
use Rattle.ad_schema_defaults.specs.NewClass.{classes_named, class_place}
use Rattle.ad_schema_defaults.proofs.Naming.{behind, behind_none, ids, ids_more, named_more, named_none, named_end}
use Rattle.ad_schema_defaults.proofs.class.classes_named.Goals as goal

pub loop-name-init : goal.loop-name-init
loop-name-init c =
    ap (λ (l : List ClassId). behind (ids l) (classes_named c.args.schema.now c.args.names.now))
    c.in_ok-classes.ensures.items
    ∙ behind_none (classes_named c.args.schema.now c.args.names.now)

pub returns-in_default : goal.returns-in_default
returns-in_default c =
    let schema = c.args.schema.now in
    let names = c.args.names.now in
    let name = c.name-item.result in
    let place : class_place schema name ≡ None =
    ap (λ (n : List ℕ). class_place schema n) (sym c.as_slice.ensures) ∙ ap (option_map (λ (id : ClassId). id.0))
    (sym c.class.ensures.class ∙ c.in_default.is) in
    sym (named_none schema names c.loop-name.name-index name (ids c.loop-name.classes.items) c.loop-name-test.true
    c.name-item.is place) ∙ c.loop-name.invariant

pub loop-name-preserved : goal.loop-name-preserved
loop-name-preserved c =
    let schema = c.args.schema.now in
    let names = c.args.names.now in
    let name = c.name-item.result in
    let old = c.loop-name.classes.items in
    let class = c.in-Some.class in
    let i = c.loop-name.name-index in
    let place : class_place schema name ≡ Some class.0 =
    ap (λ (n : List ℕ). class_place schema n) (sym c.as_slice.ensures) ∙ ap (option_map (λ (id : ClassId). id.0))
    (sym c.class.ensures.class ∙ c.in-Some.is) in
    ap (λ (l : List ℕ). behind l (classes_named schema (drop (i + 1) names)))
    (ap ids c.in_ok-push.ensures.items ∙ ids_more old class)
    ∙ sym (named_more schema names i name (ids old) class.0 c.loop-name-test.true c.name-item.is place)
    ∙ c.loop-name.invariant

pub returns : goal.returns
returns c =
    sym (named_end c.args.schema.now c.args.names.now c.loop-name.name-index (ids c.loop-name.classes.items)
    (omega (arith, c.loop-name-test.false)))
    ∙ c.loop-name.invariant
