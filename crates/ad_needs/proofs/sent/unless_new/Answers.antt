use Rattle.std.proofs.Common.{◌<◌, false, List, ℕ, length, get_or, ap, ◌∙◌, arith}
use Rattle.ad_needs.specs.Additions.{unplaced_checks}
use Rattle.ad_needs_rules.specs.Judged.{refusal_of}
use Rattle.ad_needs.proofs.FirstLaws.{placed, unplaced, is_named_first}
use Rattle.ad_needs.proofs.SentLaws.{first_said, unplaced_said}
use Rattle.ad_needs.proofs.sent.unless_new.Goals as goal

pub returns-in-Some-clause-refusal : goal.returns-in-Some-clause-refusal
returns-in-Some-clause-refusal c =
    let lt : c.in-Some.id.0 < length c.args.named.now = omega (arith, c.in-Some.ensures.in_range, c.requires.len) in
    let at = placed c.args.schema.now c.args.attr.now.0 c.as_slice.result.now c.in-Some.id c.in-Some.ensures.attr
    c.as_slice.ensures in
    c.unless_first.ensures
    ∙ first_said c.args.schema.now c.args.earlier.now c.args.attr.now c.in-Some.id.0 c.is_first_mark.result
    (get_or c.args.named.now c.in-Some.id.0 false) at
    c.is_first_mark.ensures.first
    (is_named_first (λ (a : List ℕ × List (List ℕ)). a.0) c.args.schema.now c.args.named.now c.args.earlier.now
    c.args.attr.now.0 c.in-Some.id.0 c.requires at lt)

pub returns-in-None-clause-refusal : goal.returns-in-None-clause-refusal
returns-in-None-clause-refusal c =
    c.unless_descriptor.ensures
    ∙ ap (λ (name : List ℕ). refusal_of (unplaced_checks c.args.earlier.now name)) c.as_slice-in-None.ensures
    ∙ ap refusal_of (unplaced_said c.args.schema.now c.args.earlier.now c.args.attr.now
    (unplaced c.args.schema.now c.args.attr.now.0 c.as_slice.result.now c.in-None.ensures.attr c.as_slice.ensures))
