use Rattle.std.proofs.Common.{◌-◌, length, get_or, ap, sym, ◌∙◌, arith, eq-eqb}
use Rattle.ad_ids.proofs.SidBegun.{begun, begun_long, begun_count, begun_last}
use Rattle.ad_ids.proofs.sid_begun.may_begin.Goals as goal

pub returns-then-count-eq0 : goal.returns-then-count-eq0
returns-then-count-eq0 c = λ sid words e.
    let b = begun sid c.args.bytes.now (λ i. omega (arith, c.type_inv.bytes i)) e in
    absurd (omega (arith, c.if-count-eq0.true, ap length words, b.is.at_least_one))

pub returns-then-count-gt15 : goal.returns-then-count-gt15
returns-then-count-gt15 c = λ sid words e.
    let b = begun sid c.args.bytes.now (λ i. omega (arith, c.type_inv.bytes i)) e in
    absurd (omega (arith, c.if-count-gt15.true, ap length words, b.is.at_most_15))

pub returns-then-bytes-count : goal.returns-then-bytes-count
returns-then-bytes-count c = λ sid words e.
    let b = begun sid c.args.bytes.now (λ i. omega (arith, c.type_inv.bytes i)) e in
    absurd (omega (arith, c.if-bytes-count.true, ap length words, begun_long sid c.args.bytes.now b))

pub returns-then-from-count : goal.returns-then-from-count
returns-then-from-count c = λ sid words e.
    let b = begun sid c.args.bytes.now (λ i. omega (arith, c.type_inv.bytes i)) e in
    absurd (c.if-from-count.true (c.from.ensures ∙ begun_count sid c.args.bytes.now b ∙ ap length words))

pub returns : goal.returns
returns c = λ sid words e.
    let b = begun sid c.args.bytes.now (λ i. omega (arith, c.type_inv.bytes i)) e in
    eq-eqb _ _ (c.word_at.ensures ∙ begun_last sid c.args.bytes.now b (length c.args.words.now)
    (sym (ap length words)) ∙ ap (λ (xs : _). get_or xs (length c.args.words.now - 1) 0) words)
