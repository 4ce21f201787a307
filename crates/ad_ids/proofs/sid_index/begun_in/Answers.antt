use Rattle.std.proofs.Common.{◌≡◌, ◌<◌, ◌≤◌, ◌-◌, false, ℕ, length, get_or, sym, ap, subst, ◌∙◌, arith}
use Rattle.std.proofs.lemmas.List.{get_or_default}
use Rattle.ad_ids.specs.SidValue.{SidValue, same_sid}
use Rattle.ad_ids.specs.SidIndex.{bucket_of, nobody, bucket_at, latest}
use Rattle.ad_ids.proofs.SidChains.{latest_le, chain_starts, chain_goes_on, chain_ends}
use Rattle.ad_ids.proofs.SidBegun.{read_as, not_begun}
use Rattle.ad_ids.proofs.sid_index.begun_in.Goals as goal

pub loop-end-init : goal.loop-end-init
loop-end-init c =
    let start : c.from-end.result ≡ latest (bucket_of c.args.key) c.bucket_begun.result c.args.items.now
    (length c.args.items.now) = c.from-end.ensures ∙ c.requires.heads_are c.bucket_begun.result
    c.bucket_begun.ensures.below in
    record {
      within = omega (
        arith,
        start,
        latest_le (bucket_of c.args.key) c.bucket_begun.result c.args.items.now
            (length c.args.items.now),
      );
      chain = λ sid rest e.
          let bucket = c.bucket_begun.ensures.value sid rest e in
          chain_starts (bucket_of c.args.key) c.args.heads.now c.args.before.now c.args.items.now sid
          c.from-end.result c.requires
          (subst (λ (b : ℕ). b < 1024) bucket c.bucket_begun.ensures.below)
          (c.from-end.ensures ∙ ap (λ (b : ℕ). get_or c.args.heads.now b 0) bucket);
    }

before_end : (c : goal.After-from-end-in-loop-end) → c.from-end-in-loop-end.result ≤ c.loop-end.end - 1
before_end c =
    let within = c.loop-end.invariant.within in
    let lt : c.loop-end.end - 1 < length c.args.items.now = omega (arith, within, c.loop-end-test.true) in
    let next : c.from-end-in-loop-end.result ≡ latest (bucket_of c.args.key)
    (bucket_at (bucket_of c.args.key) c.args.items.now (c.loop-end.end - 1)) c.args.items.now (c.loop-end.end - 1)
    = c.from-end-in-loop-end.ensures ∙ c.requires.before_are (c.loop-end.end - 1) lt in
    omega (
      arith,
      next,
      latest_le (bucket_of c.args.key)
          (bucket_at (bucket_of c.args.key) c.args.items.now (c.loop-end.end - 1)) c.args.items.now
          (c.loop-end.end - 1),
    )

pub loop-end-smaller : goal.loop-end-smaller
loop-end-smaller c = omega (arith, before_end c, c.loop-end-test.true)

pub loop-end-preserved : goal.loop-end-preserved
loop-end-preserved c =
    let within = c.loop-end.invariant.within in
    let lt : c.loop-end.end - 1 < length c.args.items.now = omega (arith, within, c.loop-end-test.true) in
    let item = c.index-items-end.is ∙ get_or_default c.args.items.now (c.loop-end.end - 1) c.index-items-end.result
    nobody lt in
    record {
      within = omega (arith, before_end c, within);
      chain = λ sid rest e.
          let apart : same_sid (get_or c.args.items.now (c.loop-end.end - 1) nobody) sid ≡ false =
          ap (λ (s : SidValue). same_sid s sid) (sym item)
          ∙ sym (read_as c.args.bytes.now c.index-items-end.result sid rest e) ∙ sym c.begins.ensures
          ∙ c.if-begins.false in
          (chain_goes_on (bucket_of c.args.key) c.args.heads.now c.args.before.now c.args.items.now sid c.loop-end.end
          c.from-end-in-loop-end.result c.requires
          (omega (arith, c.loop-end-test.true)) (c.loop-end.invariant.chain sid rest e) apart
          c.from-end-in-loop-end.ensures).0;
    }

pub returns : goal.returns
returns c = not_begun c.args.bytes.now c.args.items.now
    (λ sid rest e. chain_ends (bucket_of c.args.key) c.args.items.now sid c.loop-end.end
    (omega (arith, c.loop-end-test.false)) (c.loop-end.invariant.chain sid rest e))
