use Rattle.std.proofs.Common.{◌≡◌, List, ℕ, ◌++◌, length, ap, ◌∙◌}
use Rattle.ad_ber.specs.Writing.{header, element_bytes}
use Rattle.ad_ldap.specs.Reply.{values_bytes}
use Rattle.ad_ldap.proofs.ReplyWriting.{attr_joined}
use Rattle.ad_ldap.proofs.reply_writing.put_attr.Goals as goal

pub returns : goal.returns
returns c =
    let old = c.args.into.now.items in
    let name = c.args.attr.now.0 in
    let values = c.args.attr.now.1 in
    let body = c.in_ok-body.body in
    let set = c.in_ok-values.values in
    let is_set : set ≡ length (values_bytes values) = c.in_ok-values.ensures
    ∙ ap (λ (vs : List (List ℕ)). length (values_bytes vs)) c.as_slice.ensures in
    let front : c.put.new.into.items ≡ (old ++ header 48 body) ++ element_bytes 4 name =
    c.in_ok-put.ensures.ok ∙ ap (λ (t : List ℕ). t ++ element_bytes 4 c.as_slice-2.result.now)
    c.in_ok-put_header.ensures.ok ∙ ap (λ (n : List ℕ). (old ++ header 48 body) ++ element_bytes 4 n)
    c.as_slice-2.ensures in
    let whole : c.put_values.new.into.items ≡ (((old ++ header 48 body) ++ element_bytes 4 name) ++ header 49 set)
    ++ values_bytes values =
    c.in_ok-put_values.ensures
    ∙ ap (λ (t : List ℕ). t ++ values_bytes c.as_slice-3.result.now)
    (c.in_ok-put_header-2.ensures.ok ∙ ap (λ (t : List ℕ). t ++ header 49 set) front)
    ∙ ap (λ (vs : List (List ℕ)). (((old ++ header 48 body) ++ element_bytes 4 name) ++ header 49 set)
    ++ values_bytes vs) c.as_slice-3.ensures in
    attr_joined old c.put_values.new.into.items name values body set c.in_ok-body.ensures is_set whole
