use Rattle.std.proofs.Common.{◌≡◌, List, ℕ, [], ◌++◌, ap, ◌∙◌}
use Rattle.ad_ber.specs.Writing.{header, number_element}
use Rattle.ad_ldap.proofs.ReplyWriting.{message_joined}
use Rattle.ad_ldap.proofs.reply_writing.message_front.Goals as goal

pub returns : goal.returns
returns c = λ body is.
    let inner = c.in_ok-inner.inner in
    let front : c.put_header-2.new.into.items ≡ (header 48 inner ++ number_element 2 c.args.id)
    ++ header c.args.tag c.args.len =
    c.in_ok-put_header-2.ensures.ok
    ∙ ap (λ (t : List ℕ). t ++ header c.args.tag c.args.len)
    (c.in_ok-put_number.ensures ∙ ap (λ (t : List ℕ). t ++ number_element 2 c.args.id)
    (c.in_ok-put_header.ensures.ok ∙ ap (λ (t : List ℕ). t ++ header 48 inner) c.in_ok-bytes.ensures.items)) in
    message_joined c.args.id c.args.tag inner c.args.len c.number_len.result c.in_ok-response.response
    c.put_header-2.new.into.items body is (c.number_len.ensures.len 2)
    (c.in_ok-response.ensures c.args.tag body is) c.in_ok-inner.ensures front
