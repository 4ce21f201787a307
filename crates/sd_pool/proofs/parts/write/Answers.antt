use Rattle.std.proofs.Common.{◌≡◌, ℕ, ◌+◌, ◌*◌, List, ◌++◌, length, take, drop, ap, ◌∙◌, arith}
use Rattle.std.proofs.Math.Seq.{take-append_seam}
use Rattle.sd_pool.proofs.parts.write.Goals as goal

pub returns : goal.returns
returns c =
    let new : List ℕ = c.write_in.new.region in
    let long : c.args.region.now.len ≡ length c.write_in.new.region
    = omega (arith, c.write_in.ensures.len, c.deref_mut.ensures.len) in
    let before : List ℕ = c.args.region.now.items in
    ap (λ (n : ℕ). take n (new ++ drop (length new) before)) long
    ∙ take-append_seam new (drop (length new) before)
    ∙ c.write_in.ensures.whole
    ∙ ap (λ (r : List ℕ). take (64 * c.args.block) r ++ c.args.bytes.now
    ++ drop (64 * c.args.block + length c.args.bytes.now) r) c.deref_mut.ensures.value
