use Rattle.std.proofs.Common.{◌≡◌, ◌++◌, List, ℕ, OnOk, sym, ap, subst, ◌∙◌}
use Rattle.std.specs.String.{string_bytes}
use Rattle.ad_acl.specs.Entry.{Entry}
use Rattle.ad_acl.specs.Writing.{has_guid}
use Rattle.ad_ids.specs.SidText.{sid_text}
use Rattle.ad_acl.specs.Codes.{flag_codes}
use Rattle.ad_sddl.specs.Grammar.{type_text}
use Rattle.ad_sddl.specs.Canonical.{codes_text, rights_text, guid_text_if, entry_text}
use Rattle.ad_sddl.proofs.Pieces.{flags_ascii, entry_joined, where_ok}
use Rattle.ad_sddl.proofs.printing.push_entry.Goals as goal

pub push_codes-requires : goal.push_codes-requires
push_codes-requires c = flags_ascii c.flag_codes.result.now c.flag_codes.ensures

pub returns : goal.returns
returns c =
    let e : Entry = record {
      kind = c.ace.inside.kind;
      flags = c.ace.inside.flags;
      mask = c.ace.inside.mask;
      object
          = c.ace.inside.object;
      inherited = c.ace.inside.inherited;
      sid = c.ace.inside.sid;
    } in
    let is_object : c.has_guid.result ≡ has_guid e.object e.inherited = c.has_guid.ensures
    ∙ ap (λ (a : Entry). has_guid a.object a.inherited) (sym c.ace.view_is) in
    let kind : string_bytes c.push_str-2.new.self ≡ string_bytes c.push_str.new.self
    ++ type_text (has_guid e.object e.inherited) e.kind =
    c.in_ok-push_str-2.ensures.bytes ∙ ap (λ (t : List ℕ). string_bytes c.push_str.new.self ++ t)
    (c.type_text.ensures ∙ ap (λ b. type_text b e.kind) is_object) in
    let flags : string_bytes c.push_codes.new.text ≡ string_bytes c.push_str-3.new.self
    ++ codes_text flag_codes e.flags =
    c.in_ok-push_codes.ensures ∙ ap (λ t. string_bytes c.push_str-3.new.self ++ codes_text t c.from.result)
    c.flag_codes.ensures ∙ ap (λ m. string_bytes c.push_str-3.new.self ++ codes_text flag_codes m) c.from.ensures
    in
    record {
      text = subst (λ (a : Entry). OnOk c.push_str-8.result
          (string_bytes c.push_str-8.new.self ≡ string_bytes c.args.text.now ++ entry_text a)) c.ace.view_is
          (where_ok c.push_str-8.result (string_bytes c.push_str-8.new.self) _ _
          (string_bytes c.args.text.now ++ entry_text e) c.push_str-8.ensures.bytes
          (entry_joined (string_bytes c.args.text.now) (string_bytes c.push_str.new.self)
          (string_bytes c.push_str-2.new.self) (string_bytes c.push_str-3.new.self)
          (string_bytes c.push_codes.new.text) (string_bytes c.push_str-4.new.self)
          (string_bytes c.push_rights.new.text) (string_bytes c.push_str-5.new.self)
          (string_bytes c.push_guid.new.text) (string_bytes c.push_str-6.new.self)
          (string_bytes c.push_guid-2.new.text) (string_bytes c.push_str-7.new.self)
          (string_bytes c.push_sid.new.text)
          (type_text (has_guid e.object e.inherited) e.kind) (codes_text flag_codes e.flags) (rights_text e.mask)
          (guid_text_if e.object) (guid_text_if e.inherited) (sid_text e.sid)
          c.in_ok-push_str.ensures.bytes kind c.in_ok-push_str-3.ensures.bytes flags c.in_ok-push_str-4.ensures.bytes
          c.in_ok-push_rights.ensures c.in_ok-push_str-5.ensures.bytes c.in_ok-push_guid.ensures
          c.in_ok-push_str-6.ensures.bytes c.in_ok-push_guid-2.ensures c.in_ok-push_str-7.ensures.bytes
          c.in_ok-push_sid.ensures.text));
    }
