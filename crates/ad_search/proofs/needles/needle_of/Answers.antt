use Rattle.std.proofs.Common.{sym, ◌∙◌}
use Rattle.ad_search.specs.declared.needles.Needle.{Needle}
use Rattle.ad_ldap.specs.FilterValue as filter
use Rattle.ad_search.specs.Needles.{IsNeedle, IsAskedAs}
use Rattle.ad_search.proofs.NeedleLaws.{lifted, equal_needs}
use Rattle.ad_search.proofs.needles.needle_of.Goals as goal

pub returns-in-Some : goal.returns-in-Some
returns-in-Some c =
    lifted c.needle_at.result (IsAskedAs c.args.schema.now c.in-Some.attr c.args.sent.now)
    (IsNeedle c.args.schema.now (filter.Equal c.args.name.now c.args.sent.now))
    (λ (needle : Needle) asked. equal_needs c.args.schema.now c.args.name.now c.args.sent.now c.in-Some.attr needle
    (sym c.is_descriptor.ensures ∙ c.if-is_descriptor.false) (sym c.attr.ensures.attr ∙ c.in-Some.is) asked)
    c.needle_at.ensures
