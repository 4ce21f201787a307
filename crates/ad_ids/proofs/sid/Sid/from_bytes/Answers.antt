use Rattle.std.proofs.Common.{ap, sym, arith, refl, ◌∙◌}
use Rattle.ad_bytes.proofs.Codec.{found_front, left_le, only_found, none_found}
use Rattle.ad_ids.specs.Sid.{SpellsSid}
use Rattle.ad_ids.specs.SidReading.{sid_at}
use Rattle.ad_ids.proofs.SidCodec.{sid_reader}
use Rattle.ad_ids.proofs.sid.Sid.from_bytes.Goals as goal

pub returns-in_err-sid-clause-only : goal.returns-in_err-sid-clause-only
returns-in_err-sid-clause-only c = λ sid text rest s parts.
    absurd (none_found SpellsSid sid_at sid_reader c.args.bytes.now _
    (ap sid_at (sym c.new-input.ensures) ∙ c.in_err-sid.ensures.read) sid text rest s parts)

pub overflow_sub-result : goal.overflow_sub-result
overflow_sub-result c =
    let t = sid_reader.takes c.args.bytes.now c.in_ok-sid.sid c.read.new.input
    (λ i. omega (arith, c.type_inv.bytes i)) (ap sid_at (sym c.new-input.ensures) ∙ c.in_ok-sid.ensures.read) in
    rw c.len.ensures (left_le SpellsSid c.args.bytes.now c.in_ok-sid.sid c.read.new.input t)

pub returns-clause-found : goal.returns-clause-found
returns-clause-found c =
    let t = sid_reader.takes c.args.bytes.now c.in_ok-sid.sid c.read.new.input
    (λ i. omega (arith, c.type_inv.bytes i)) (ap sid_at (sym c.new-input.ensures) ∙ c.in_ok-sid.ensures.read) in
    rw c.len.ensures (found_front SpellsSid c.args.bytes.now c.in_ok-sid.sid c.read.new.input t)

pub returns-clause-only : goal.returns-clause-only
returns-clause-only c = λ sid text rest s parts.
    let same = only_found SpellsSid sid_at sid_reader c.args.bytes.now c.in_ok-sid.sid c.read.new.input
    (ap sid_at (sym c.new-input.ensures) ∙ c.in_ok-sid.ensures.read) sid text rest s parts in
    rw (c.len.ensures, same.1, same.0) refl
