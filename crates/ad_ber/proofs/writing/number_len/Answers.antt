use Rattle.std.proofs.Common.{ap, ◌*◌, ◌∙◌, arith}
use Rattle.ad_ber.specs.Writing.{width, number_element, element_bytes, number_bytes, header, length_bytes}
use Rattle.ad_ber.proofs.Shortest.{length_number, number_width}
use Rattle.ad_ber.proofs.writing.number_len.Goals as goal

pub returns-clause-len : goal.returns-clause-len
unfolding number_element element_bytes number_bytes header length_bytes
returns-clause-len c = λ tag. length_number tag c.args.number c.width.result (omega arith)
    (c.width.ensures.width ∙ ap (λ n. width (2 * n)) c.from.ensures)

pub returns-clause-within : goal.returns-clause-within
returns-clause-within c =
    omega (
      arith,
      number_width c.args.number (omega arith),
      c.width.ensures.width ∙ ap (λ n. width (2 * n))
          c.from.ensures,
    )
