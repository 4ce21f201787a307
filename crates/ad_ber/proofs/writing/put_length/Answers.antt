use Rattle.std.proofs.Common.{◌≡◌, ◌+◌, ◌-◌, [], ◌∷◌, ◌++◌, take, drop, ap, ◌∙◌}
use Rattle.std.specs.Int.{to_be_bytes, w64}
use Rattle.ad_ber.proofs.Shortest.{length_put}
use Rattle.ad_ber.proofs.writing.put_length.Goals as goal

pub returns-clause-ok : goal.returns-clause-ok
returns-clause-ok c =
    let w = c.width-width.result in
    let old = c.args.into.now.items in
    let bytes = to_be_bytes w64 c.args.len in
    let put : c.extend_from_slice.new.self.items ≡ c.push-2.new.self.items ++ take (8 - (8 - w)) (drop (8 - w) bytes)
    = c.in_ok-extend_from_slice.ensures.items
    ∙ ap (λ bs. c.push-2.new.self.items ++ take (8 - (8 - w)) (drop (8 - w) bs)) c.to_be_bytes-bytes.ensures in
    length_put old c.extend_from_slice.new.self.items c.args.len w c.if-len-lt128.false c.width-width.ensures.width
    (put ∙ ap (λ front. front ++ take (8 - (8 - w)) (drop (8 - w) bytes)) c.in_ok-push-2.ensures.items)
