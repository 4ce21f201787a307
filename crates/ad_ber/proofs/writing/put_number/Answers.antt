use Rattle.std.proofs.Common.{◌*◌, ◌++◌, ap, ◌∙◌}
use Rattle.std.proofs.lemmas.Result.{on_ok_weaker}
use Rattle.std.specs.Int.{to_be_bytes, w64}
use Rattle.ad_ber.specs.Writing.{width, number_element, element_bytes}
use Rattle.ad_ber.proofs.Shortest.{number_put}
use Rattle.ad_ber.proofs.writing.put_number.Goals as goal

pub returns : goal.returns
unfolding number_element
returns c =
    let body = number_put c.to_be_bytes-bytes.result c.args.number c.width.result
    (c.width.ensures.width ∙ ap (λ n. width (2 * n)) c.from-number.ensures)
    (c.to_be_bytes-bytes.ensures ∙ ap (to_be_bytes w64) c.from-number.ensures) in
    on_ok_weaker c.put_element.result (λ e. e ∙ ap (λ b. c.args.into.now.items ++ element_bytes c.args.tag b) body)
    c.put_element.ensures.ok
