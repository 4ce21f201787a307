use Rattle.std.proofs.Common.{◌≡◌, ◌<◌, ◌-◌, false, ℕ, length, get_or, sym, ap, subst, ◌∙◌, arith}
use Rattle.std.proofs.lemmas.List.{get_or_default}
use Rattle.ad_ids.specs.SidValue.{SidValue, same_sid}
use Rattle.ad_ids.specs.SidIndex.{bucket_of, nobody}
use Rattle.ad_ids.proofs.SidChains.{IsChainFrom, chain_starts, chain_goes_on}
use Rattle.ad_ids.proofs.sid_index.contains_in.Goals as goal

pub loop-end-init : goal.loop-end-init
loop-end-init c =
    chain_starts (bucket_of c.args.key) c.args.heads.now c.args.before.now c.args.items.now c.args.sid.now
    c.from-end.result c.requires
    (subst (λ (b : ℕ). b < 1024) c.bucket_of.ensures.value c.bucket_of.ensures.below)
    (c.from-end.ensures ∙ ap (λ (b : ℕ). get_or c.args.heads.now b 0) c.bucket_of.ensures.value)

next : (c : goal.After-from-end-in-loop-end) → IsChainFrom (bucket_of c.args.key) c.from-end-in-loop-end.result
    c.args.items.now c.args.sid.now × (c.from-end-in-loop-end.result < c.loop-end.end)
next c =
    let within = c.loop-end.invariant.within in
    let lt : c.loop-end.end - 1 < length c.args.items.now = omega (arith, within, c.loop-end-test.true) in
    let item = c.index-items-end.is ∙ get_or_default c.args.items.now (c.loop-end.end - 1) c.index-items-end.result
    nobody lt in
    let apart : same_sid (get_or c.args.items.now (c.loop-end.end - 1) nobody) c.args.sid.now ≡ false =
    ap (λ (s : SidValue). same_sid s c.args.sid.now) (sym item) ∙ sym c.eq.ensures ∙ c.if-eq.false in
    chain_goes_on (bucket_of c.args.key) c.args.heads.now c.args.before.now c.args.items.now c.args.sid.now
    c.loop-end.end c.from-end-in-loop-end.result c.requires
    (omega (arith, c.loop-end-test.true)) c.loop-end.invariant apart c.from-end-in-loop-end.ensures

pub loop-end-smaller : goal.loop-end-smaller
loop-end-smaller c = (next c).1

pub loop-end-preserved : goal.loop-end-preserved
loop-end-preserved c = (next c).0
