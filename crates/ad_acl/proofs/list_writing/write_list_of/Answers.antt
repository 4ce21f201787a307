use Rattle.std.proofs.Common.{◌≡◌, ◌+◌, ◌≤◌, ◌∷◌, Bool, cond, List, ℕ, ◌++◌, length, Ok, ap, sym, refl, ◌∙◌, arith}
use Rattle.std.specs.List.{flat_map}
use Rattle.ad_bytes.specs.Numbers.{le_bytes}
use Rattle.ad_acl.specs.Writing.{entry_bytes}
use Rattle.ad_acl.proofs.ListWriting.{is_too_long, is_written, list_put, few_bytes}
use Rattle.ad_acl.proofs.list_writing.write_list_of.Goals as goal

pub returns-then-entries-clause-written : goal.returns-then-entries-clause-written
returns-then-entries-clause-written c = λ list e n g _. is_too_long list (omega (arith, ap length e, c.if-entries.true))

pub returns-clause-written : goal.returns-clause-written
returns-clause-written c = λ list e n g.
    let body = c.args.entries.now in
    let fits : 8 + length (flat_map entry_bytes list) ≤ 65535 = omega (arith, ap length e, c.if-entries.false) in
    is_written list fits ∙ ap (λ (t : List ℕ). Ok t)
    (sym (list_put list c.extend_from_slice.new.self.items c.in_ok-bytes.bytes.items body c.revision_by.result
    (8 + length body) c.args.count
    c.in_ok-bytes.ensures.items (c.revision_by.ensures ∙ ap (λ (b : Bool). cond b 4 2) g) refl n e
    (c.in_ok-extend_from_slice.ensures.items ∙ ap (λ (t : List ℕ). t ++ body) c.in_ok-put_header.ensures)))

pub returns-clause-few : goal.returns-clause-few
returns-clause-few c =
    let body = c.args.entries.now in
    few_bytes c.extend_from_slice.new.self.items c.in_ok-bytes.bytes.items body c.revision_by.result (8 + length body)
    c.args.count
    c.in_ok-bytes.ensures.items (c.in_ok-extend_from_slice.ensures.items ∙ ap (λ (t : List ℕ). t ++ body)
    c.in_ok-put_header.ensures) (omega (arith, c.if-entries.false))
