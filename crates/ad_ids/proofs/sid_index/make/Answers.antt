use Rattle.std.proofs.Common.{◌≡◌, ◌+◌, ◌<◌, length, get_or, refl, subst, ap, ◌∙◌, arith}
use Rattle.std.proofs.lemmas.List.{get_or_default}
use Rattle.ad_ids.specs.SidIndex.{IsIndexUpTo, bucket_of, nobody}
use Rattle.ad_ids.proofs.SidChains.{index_starts, index_more}
use Rattle.ad_ids.proofs.sid_index.make.Goals as goal

pub loop-i-init : goal.loop-i-init
loop-i-init c = index_starts (bucket_of c.args.key) c.in_ok-heads.heads.items c.in_ok-before.before.items
    c.args.items.now (c.in_ok-heads.ensures.items_if_clones_equal (λ y same. same)) c.in_ok-before.ensures.items

pub loop-i-preserved : goal.loop-i-preserved
loop-i-preserved c =
    let bucket = c.bucket_of-bucket.ensures.value ∙ ap (bucket_of c.args.key)
    (c.index-items-i.is ∙ get_or_default c.args.items.now c.loop-i.i c.index-items-i.result nobody
    c.loop-i-test.true) in
    let room : c.bucket_of-bucket.result < length c.loop-i.heads.items
    = omega (arith, c.bucket_of-bucket.ensures.below, c.loop-i.invariant.buckets) in
    let last : c.index.result.now ≡ get_or c.loop-i.heads.items c.bucket_of-bucket.result 0 = c.index.ensures
    ∙ get_or_default c.loop-i.heads.items c.bucket_of-bucket.result c.index.result.now 0 room in
    rw (c.in_ok-push.ensures.items, last)
    (index_more (bucket_of c.args.key) c.loop-i.i c.bucket_of-bucket.result (c.loop-i.i + 1) c.loop-i.heads.items
    c.loop-i.before.items c.args.items.now bucket c.bucket_of-bucket.ensures.below refl c.loop-i.invariant)

pub returns : goal.returns
returns c = subst (λ (n : _). IsIndexUpTo (bucket_of c.args.key) n c.loop-i.heads.items c.loop-i.before.items
    c.args.items.now) (omega (arith, c.loop-i-test.false, c.loop-i.auto.i-end)) c.loop-i.invariant
