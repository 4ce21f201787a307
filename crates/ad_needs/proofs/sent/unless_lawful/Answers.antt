use Rattle.std.proofs.Common.{◌∙◌, List, ℕ, ap}
use Rattle.ad_needs_rules.specs.Adding.{own_checks}
use Rattle.ad_needs_rules.specs.Judged.{refusal_of}
use Rattle.ad_needs.proofs.SentLaws.{checks_some, checks_none}
use Rattle.ad_needs.proofs.sent.unless_lawful.Goals as goal

pub returns-in-Some : goal.returns-in-Some
returns-in-Some c =
    c.unless_own.ensures
    ∙ ap (λ (v : List (List ℕ)). refusal_of
    (own_checks c.args.schema.now c.args.class.0 c.args.value.now (c.in-Some.id.0, v))) c.as_slice.ensures
    ∙ checks_some c.args.schema.now c.args.class.0 c.args.value.now c.args.attr.now
    (c.in-Some.id.0, c.args.attr.now.1) (rw c.in-Some.is at c.ordinary.ensures.place)

pub returns-in-None : goal.returns-in-None
returns-in-None c = checks_none c.args.schema.now c.args.class.0 c.args.value.now c.args.attr.now
    (rw c.in-None.is at c.ordinary.ensures.place)
