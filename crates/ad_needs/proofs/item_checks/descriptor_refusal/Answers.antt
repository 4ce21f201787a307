use Rattle.std.proofs.Common.{sym, ◌∙◌}
use Rattle.ad_needs.proofs.DecodingLaws.{alone, not_alone, with_part, without_part}
use Rattle.ad_needs.proofs.item_checks.descriptor_refusal.Goals as goal

pub returns-then-not-alone : goal.returns-then-not-alone
returns-then-not-alone c = λ flags has. not_alone flags c.args.items.now c.args.item.now
    (sym c.in_ok-alone.ensures ∙ c.if-not-alone.true)

pub returns-then-has_part : goal.returns-then-has_part
returns-then-has_part c = λ flags has.
    let sole = sym c.in_ok-alone.ensures ∙ c.if-not-alone.false in
    with_part flags c.args.items.now c.args.item.now sole
    (sym (has (alone c.args.items.now c.args.item.now sole)) ∙ c.if-has_part.true)

pub returns : goal.returns
returns c = λ flags has.
    let sole = sym c.in_ok-alone.ensures ∙ c.if-not-alone.false in
    without_part flags c.args.items.now c.args.item.now sole
    (sym (has (alone c.args.items.now c.args.item.now sole)) ∙ c.if-has_part.false)
