use Rattle.std.proofs.Common.{◌≡◌, ◌-◌, ℕ, length, get_or, ap, ◌∙◌, arith}
use Rattle.ad_ids.specs.SidIndex.{bucket_by_end, bucket_of_word}
use Rattle.ad_ids.proofs.SidBegun.{read_begun, begun_long, begun_count, begun_last}
use Rattle.ad_ids.proofs.sid_index.end_begun.Goals as goal

pub returns-then-bytes-lt8-clause-value : goal.returns-then-bytes-lt8-clause-value
returns-then-bytes-lt8-clause-value c = λ sid rest e.
    let b = read_begun c.args.bytes.now sid rest (λ i. omega (arith, c.type_inv.bytes i)) e in
    absurd (omega (arith, c.if-bytes-lt8.true, begun_long sid c.args.bytes.now b))

pub returns-then-bytes-count-clause-value : goal.returns-then-bytes-count-clause-value
returns-then-bytes-count-clause-value c = λ sid rest e.
    let b = read_begun c.args.bytes.now sid rest (λ i. omega (arith, c.type_inv.bytes i)) e in
    absurd (omega (
      arith,
      c.if-bytes-count.true,
      c.from-count.ensures,
      begun_count sid c.args.bytes.now b,
      begun_long
          sid c.args.bytes.now b,
    ))

pub returns-clause-value : goal.returns-clause-value
unfolding bucket_by_end
returns-clause-value c = λ sid rest e.
    let b = read_begun c.args.bytes.now sid rest (λ i. omega (arith, c.type_inv.bytes i)) e in
    let count : c.from-count.result ≡ length sid.sub_authorities = c.from-count.ensures
    ∙ begun_count sid c.args.bytes.now b in
    c.bucket_of_word.ensures.value
    ∙ ap bucket_of_word (c.word_at.ensures ∙ begun_last sid c.args.bytes.now b c.from-count.result count)
    ∙ ap (λ (n : ℕ). bucket_of_word (get_or sid.sub_authorities (n - 1) 0)) count
