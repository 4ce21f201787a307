use Rattle.std.proofs.Common.{◌∙◌, ◌<◌, ◌++◌, [], ℕ, Option, length, map, sym, ap, subst}
use Rattle.std.specs.Prelude.{IfSome}
use Rattle.std.specs.Option.{option_map_or}
use Rattle.ad_schema.specs.declared.info.ClassId.{ClassId}
use Rattle.ad_schema.specs.Classes.{chain_of, classes_of}
use Rattle.ad_dir_model.specs.Shown.{computed, class_name}
use Rattle.ad_dir.proofs.ShownLaws.{shorter, one_pushed}
use Rattle.ad_dir.proofs.shown.chain_values.Goals as goal

pub loop-next-smaller : goal.loop-next-smaller
loop-next-smaller c =
    let lt = subst (λ (next : Option ClassId). IfSome next (λ class. class.0 < length (classes_of c.args.schema.now)))
    c.in-Some.is c.loop-next.invariant.1 in
    let less = shorter c.args.schema.now c.in-Some.class.0 c.class_info-info.result.now
    (c.chains_end.ensures c.args.schema.now c.make_schema.ensures) lt c.class_info-info.ensures.info in
    subst (λ (next : Option ClassId). length (option_map_or (λ (class : ClassId). chain_of c.args.schema.now class.0)
    c.class_info-info.result.now.above [])
    < length (option_map_or (λ (class : ClassId). chain_of c.args.schema.now class.0) next [])) (sym c.in-Some.is)
    less

pub loop-next-preserved : goal.loop-next-preserved
loop-next-preserved c =
    let lt = subst (λ (next : Option ClassId). IfSome next (λ class. class.0 < length (classes_of c.args.schema.now)))
    c.in-Some.is c.loop-next.invariant.1 in
    let so_far = sym (ap (λ (next : Option ClassId). c.loop-next.values.items
    ++ map (λ (k : ℕ). computed c.args.syntax (class_name c.args.schema.now k))
    (option_map_or (λ (class : ClassId). chain_of c.args.schema.now class.0) next [])) c.in-Some.is)
    ∙ c.loop-next.invariant.0 in (
      one_pushed c.args.schema.now c.args.syntax c.in-Some.class.0 c.class_info-info.result.now
          (c.chains_end.ensures c.args.schema.now c.make_schema.ensures) lt c.class_info-info.ensures.info
          c.loop-next.values.items c.push.new.self.items c.as_slice.result.now c.in_ok-computed.field-0 _
          c.as_slice.ensures c.in_ok-computed.ensures c.in_ok-push.ensures.items so_far,
      c.class_info-info.ensures.above,
    )
