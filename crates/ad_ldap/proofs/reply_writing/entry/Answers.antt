use Rattle.std.proofs.Common.{◌≡◌, List, ℕ, ◌+◌, ◌++◌, length, refl, ap, sym, ◌∙◌, length-append}
use Rattle.ad_ber.specs.Writing.{header, element_bytes}
use Rattle.ad_ldap.specs.Reply.{attrs_bytes, entry_body}
use Rattle.ad_ldap.proofs.ReplyWriting.{entry_joined}
use Rattle.ad_ldap.proofs.reply_writing.entry.Goals as goal

pub returns : goal.returns
returns c =
    let dn = c.args.dn.now in
    let attrs = c.args.attrs.now in
    let list = c.in_ok-list.list in
    let bytes = c.in_ok-bytes.bytes.items in
    let D = element_bytes 4 dn in
    let L = element_bytes 48 (attrs_bytes attrs) in
    let is_list : list ≡ length (attrs_bytes attrs) = c.in_ok-list.ensures in
    let size : length (entry_body dn attrs) ≡ c.in_ok-len.len =
    length-append D L ∙ ap (λ (n : ℕ). n + length L) (sym (c.in_ok-name.ensures 4 dn refl))
    ∙ ap (λ (n : ℕ). c.in_ok-name.name + n)
    (sym (c.in_ok-element_len.ensures 48 (attrs_bytes attrs) (sym is_list))) ∙ sym c.in_ok-len.ensures in
    let put : c.put_attrs.new.into.items ≡ ((bytes ++ element_bytes 4 dn) ++ header 48 list) ++ attrs_bytes attrs =
    c.in_ok-put_attrs.ensures ∙ ap (λ (t : List ℕ). t ++ attrs_bytes attrs)
    (c.in_ok-put_header.ensures.ok ∙ ap (λ (t : List ℕ). t ++ header 48 list) c.in_ok-put.ensures.ok) in
    entry_joined bytes c.put_attrs.new.into.items dn attrs list is_list put
    ∙ c.in_ok-bytes.ensures (entry_body dn attrs) size
