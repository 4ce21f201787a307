use Rattle.std.proofs.Common.{◌≡◌, ℕ, ◌+◌, Bool, List, ◌++◌, ◌∷◌, take, length, sym, ap, ◌∙◌, arith}
use Rattle.std.proofs.lemmas.List.{take_at}
use Rattle.ad_bytes.specs.Numbers.{le_bytes}
use Rattle.ad_ids.specs.Sid.{sid_bytes}
use Rattle.ad_acl.specs.Entry.{type_code}
use Rattle.ad_acl.specs.Writing.{fixed_bytes, has_guid}
use Rattle.ad_acl.proofs.EntryWriting.{entry_put}
use Rattle.ad_acl.proofs.entry_writing.put_entry.Goals as goal

pub returns-clause-written : goal.returns-clause-written
returns-clause-written c =
    let a = c.ace.inside in
    let sid : List ℕ = take c.write-sid_len.result c.write-sid_len.new.into in
    let size : ℕ = 4 + c.fixed_size.result + c.write-sid_len.result in
    let fixed : List ℕ = fixed_bytes a.mask a.object a.inherited in
    let text : sid ≡ sid_bytes a.sid = ap (take c.write-sid_len.result) c.write-sid_len.ensures.written
    ∙ take_at (sid_bytes a.sid) _ c.write-sid_len.result (sym c.write-sid_len.ensures.size) in
    let code : c.code_of-code.result ≡ type_code (has_guid a.object a.inherited) a.kind = c.code_of-code.ensures
    ∙ ap (λ (b : Bool). type_code b a.kind) c.has_guid.ensures in
    let whole : size ≡ 4 + (length fixed + length (sid_bytes a.sid))
    = omega (arith, c.fixed_size.ensures.size a.mask, c.write-sid_len.ensures.size) in
    let header : c.put_header.new.into.items ≡ c.args.into.now.items ++ c.code_of-code.result ∷ a.flags
    ∷ le_bytes 2 size = c.in_ok-put_header.ensures.put in
    let fields : c.put_fixed.new.into.items ≡ c.put_header.new.into.items ++ fixed = c.in_ok-put_fixed.ensures.put in
    let put : c.extend_from_slice.new.self.items
    ≡ ((c.args.into.now.items ++ c.code_of-code.result ∷ a.flags ∷ le_bytes 2 size) ++ fixed) ++ sid
    = c.in_ok-extend_from_slice.ensures.items ∙ ap (λ (t : List ℕ). t ++ sid)
    (fields ∙ ap (λ (t : List ℕ). t ++ fixed) header) in
    entry_put a.kind a.flags a.mask a.object a.inherited a.sid c.args.ace.now c.extend_from_slice.new.self.items
    c.args.into.now.items sid c.code_of-code.result size c.ace.view_is code whole text put
