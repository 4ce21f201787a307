use Rattle.std.proofs.Common.{◌≡◌, ℕ, List, ◌-◌, drop, length, Ok, Err, ap, sym, ◌∙◌, arith}
use Rattle.ad_bytes.specs.Reading.{IsBytes}
use Rattle.ad_bytes.proofs.NumberBytes.{IsBytes-drop}
use Rattle.ad_ber.specs.declared.finding.Tagged.{Tagged}
use Rattle.ad_ber.specs.Reading.{element_at}
use Rattle.ad_ber.proofs.ElementCodec.{none_at, found_at, only_at, not_at, slice_rest}
use Rattle.ad_ber.proofs.finding.element.Goals as goal

pub returns-then-at-bytes-clause-fault : goal.returns-then-at-bytes-clause-fault
returns-then-at-bytes-clause-fault c = none_at c.args.at c.args.bytes.now (omega arith)

pub returns-in_err-tag-clause-only : goal.returns-in_err-tag-clause-only
returns-in_err-tag-clause-only c =
    let front = c.new-input.ensures ∙ slice_rest c.args.at c.args.bytes.now in
    λ e text rest s parts. absurd (not_at c.args.at c.args.bytes.now c.in_err-tag.field-0.0
    (ap element_at (sym front) ∙ c.in_err-tag.ensures.read) e text rest s parts)

pub returns-clause-found : goal.returns-clause-found
returns-clause-found c =
    let bytes = c.args.bytes.now in
    let front = c.new-input.ensures ∙ slice_rest c.args.at bytes in
    let fits : IsBytes bytes = λ i. omega (arith, c.type_inv.bytes i) in
    let e : Tagged = record { tag = c.in_ok-tag.field-0.tag; body = c.rest.result.now } in
    let read : element_at c.new-input.result ≡ Ok (e, c.read.new.input) = c.in_ok-tag.ensures.read
    ∙ ap (λ (b : List ℕ). Ok (record { tag = c.in_ok-tag.field-0.tag; body = b }, c.read.new.input))
    (sym c.rest.ensures) in
    found_at c.args.at bytes e c.read.new.input (length bytes - c.len.result) (IsBytes-drop c.args.at bytes fits)
    (ap element_at (sym front) ∙ read) (ap (λ (n : ℕ). length bytes - n) c.len.ensures)

pub returns-clause-only : goal.returns-clause-only
returns-clause-only c = λ e text rest s parts.
    let bytes = c.args.bytes.now in
    let front = c.new-input.ensures ∙ slice_rest c.args.at bytes in
    let found : Tagged = record { tag = c.in_ok-tag.field-0.tag; body = c.rest.result.now } in
    let read : element_at c.new-input.result ≡ Ok (found, c.read.new.input) = c.in_ok-tag.ensures.read
    ∙ ap (λ (b : List ℕ). Ok (record { tag = c.in_ok-tag.field-0.tag; body = b }, c.read.new.input))
    (sym c.rest.ensures) in
    only_at c.args.at bytes found c.read.new.input (length bytes - c.len.result) (ap element_at (sym front) ∙ read)
    (ap (λ (n : ℕ). length bytes - n) c.len.ensures) e text rest s parts
