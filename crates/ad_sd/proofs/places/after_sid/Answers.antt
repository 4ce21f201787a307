use Rattle.std.proofs.Common.{◌≡◌, ◌+◌, ◌*◌, drop, List, ℕ, Ok, ap, sym, ◌∙◌, arith}
use Rattle.std.specs.Prelude.{slice_index}
use Rattle.ad_sd.specs.SidHere.{sid_of}
use Rattle.ad_sd.proofs.SidHere.{skipped}
use Rattle.ad_sd.proofs.places.after_sid.Goals as goal

pub bounds-bytes-1 : goal.bounds-bytes-1
bounds-bytes-1 c = (skipped c.args.bytes.now (λ i. omega (arith, c.type_inv.bytes i)) c.requires).two

pub tail-requires : goal.tail-requires
tail-requires c = omega (
  arith,
  (skipped c.args.bytes.now (λ i. omega (arith, c.type_inv.bytes i)) c.requires).within,
  c.from.ensures,
)

pub returns : goal.returns
returns c =
    let there : c.tail.result.now ≡ drop (8 + 4 * slice_index c.args.bytes.now 1) c.args.bytes.now = c.tail.ensures
    ∙ ap (λ (n : ℕ). drop (8 + 4 * n) c.args.bytes.now) c.from.ensures in
    (skipped c.args.bytes.now (λ i. omega (arith, c.type_inv.bytes i)) c.requires).read
    ∙ ap (λ (t : List ℕ). Ok (sid_of c.args.bytes.now, t)) (sym there)
