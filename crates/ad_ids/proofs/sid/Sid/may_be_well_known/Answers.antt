use Rattle.std.proofs.Common.{ℕ, List, [], ◌∷◌, ap, arith, eq-eqb}
use Rattle.std.specs.Prelude.{slice_index_or}
use Rattle.ad_ids.specs.Sid.{sid_bytes}
use Rattle.ad_ids.proofs.SidBegun.{begun, begun_long}
use Rattle.ad_ids.proofs.sid.Sid.may_be_well_known.Goals as goal

pub returns-then-bytes-ge8 : goal.returns-then-bytes-ge8
unfolding sid_bytes
returns-then-bytes-ge8 c = λ authority word e.
    let b = begun (record { authority = authority; sub_authorities = word ∷ [] }) c.args.bytes.now
    (λ i. omega (arith, c.type_inv.bytes i)) e in
    eq-eqb _ _ (ap (λ (t : List ℕ). slice_index_or t 1 0) b.parts)

pub returns-else-bytes-ge8 : goal.returns-else-bytes-ge8
returns-else-bytes-ge8 c = λ authority word e.
    let b = begun (record { authority = authority; sub_authorities = word ∷ [] }) c.args.bytes.now
    (λ i. omega (arith, c.type_inv.bytes i)) e in
    absurd (omega (
      arith,
      c.if-bytes-ge8.false,
      begun_long
          (record { authority = authority; sub_authorities = word ∷ [] }) c.args.bytes.now b,
    ))
