use Rattle.std.proofs.Common.{List, [], ◌∷◌, ap, ◌∙◌}
use Rattle.ad_acl.specs.Mask.{write_property}
use Rattle.ad_access_dir.specs.Sight.{is_granted}
use Rattle.ad_needs_rules.specs.Needs.{Alternative, needs}
use Rattle.ad_needs_rules.specs.Requests.{class_at, attr_path}
use Rattle.ad_needs_rules.specs.Validated.{validated_write}
use Rattle.ad_needs_rules.specs.Modifying.{or_validated, items_of}
use Rattle.ad_needs.specs.Tries.{success_of}
use Rattle.ad_needs.specs.Steps.{kept, and_then}
use Rattle.ad_needs.proofs.StepLaws.{is_so, met, first_is}
use Rattle.ad_needs.proofs.ModifyLaws.{first_met}
use Rattle.ad_needs.proofs.modify_needs.attr_refusal.Goals as goal

pub returns-then-is_granted-clause-refusal : goal.returns-then-is_granted-clause-refusal
returns-then-is_granted-clause-refusal c =
    first_met c.args.dir.now c.args.token.now c.args.number write_property
    (attr_path c.args.dir.now.schema (class_at c.args.dir.now c.args.number) c.args.attr.0)
    (or_validated c.args.number (validated_write c.args.dir.now c.args.token.now c.args.number c.args.attr.0
    (items_of c.args.items.now c.args.name.now)))
    (c.if-is_granted.ensures ∙ ap (λ (a : Alternative). is_granted c.args.dir.now c.args.token.now a.object a.path
    a.bit) c.to_write-write.ensures.asked)

pub returns-then-is_granted-clause-steps : goal.returns-then-is_granted-clause-steps
returns-then-is_granted-clause-steps c =
    let dir = c.args.dir.now in
    let token = c.args.token.now in
    let a : Alternative = needs c.args.number write_property
    (attr_path dir.schema (class_at dir c.args.number) c.args.attr.0) in
    let others : List Alternative = or_validated c.args.number
    (validated_write dir token c.args.number c.args.attr.0 (items_of c.args.items.now c.args.name.now)) in
    met dir token c.args.trace.now c.keep_success.new.trace (a ∷ others) a
    (first_is dir token a others (c.if-is_granted.ensures ∙ ap (is_so dir token) c.to_write-write.ensures.asked))
    (c.in_ok-keep_success.ensures
    ∙ ap (λ (x : Alternative). and_then (kept c.args.trace.now) (success_of x ∷ [])) c.to_write-write.ensures.asked)
