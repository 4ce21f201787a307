use Rattle.std.proofs.Common.{◌≡◌, ℕ, ◌+◌, ◌-◌, ◌<◌, [], ◌∷◌, ◌++◌, ap, subst, ◌∙◌, arith, set, take, drop, replicate}
use Rattle.std.proofs.Common.{length}
use Rattle.std.proofs.Math.ListN.{length-set}
use Rattle.std.proofs.lemmas.List.{take_more_set}
use Rattle.std.proofs.lemmas.Result.{err_from_is_err_and}
use Rattle.ad_bytes.specs.Reading.{many_at}
use Rattle.ad_bytes.specs.Numbers.{le_at}
use Rattle.ad_bytes.proofs.Many.{goes_on, ends, is_done}
use Rattle.ad_ids.proofs.SidLaws.{padded_more}
use Rattle.ad_ids.proofs.sid.sub_authorities.Goals as goal

pub returns-in_err-places : goal.returns-in_err-places
returns-in_err-places c =
    let p = err_from_is_err_and c.from_residual.result c.from_residual.ensures.1 in
    rw (p.1, p.2) (record {
      read = ends (le_at 4) c.in_err-places.field-0.0
          (take c.loop-place.place c.loop-place.places) c.args.count c.loop-place.place c.loop-place.input
          (many_at (le_at 4) c.args.count c.args.input.now) c.loop-place-test.true c.in_err-places.ensures.read
          c.loop-place.invariant.so_far;
    })

pub loop-place-preserved : goal.loop-place-preserved
loop-place-preserved c =
    let lt : c.loop-place.place < length c.loop-place.places = omega (arith, c.loop-place.invariant.all) in
    let more : take (c.loop-place.place + 1) (set c.loop-place.places c.loop-place.place c.in_ok-places.field-0)
    ≡ take c.loop-place.place c.loop-place.places ++ c.in_ok-places.field-0 ∷ []
    = take_more_set c.loop-place.places c.loop-place.place c.in_ok-places.field-0 lt in
    rw (c.from.ensures, more) (record {
      so_far = goes_on (le_at 4) (take c.loop-place.place c.loop-place.places) c.args.count c.loop-place.place
          c.loop-place.input c.in_ok-places.field-0 c.le32.new.self (many_at (le_at 4) c.args.count c.args.input.now)
          c.loop-place-test.true c.in_ok-places.ensures.read c.loop-place.invariant.so_far;
      all = length-set c.loop-place.places c.loop-place.place c.in_ok-places.field-0 ∙ c.loop-place.invariant.all;
      padded = padded_more c.loop-place.places c.loop-place.place c.in_ok-places.field-0 (omega arith)
          c.loop-place.invariant.padded;
    })

pub returns : goal.returns
returns c =
    let same : c.loop-place.place ≡ c.args.count = omega arith in
    let done = is_done (le_at 4) (take c.loop-place.place c.loop-place.places) c.args.count c.loop-place.place
    c.loop-place.input (many_at (le_at 4) c.args.count c.args.input.now) c.loop-place-test.false
    c.loop-place.invariant.so_far in
    record {
      read = (
        take c.loop-place.place c.loop-place.places,
        done,
        record {
          read = ap (λ (n : ℕ). take n c.loop-place.places) same;
          all = c.loop-place.invariant.all;
          padded
              = subst (λ (n : ℕ). drop n c.loop-place.places ≡ replicate (15 - n) 0) same c.loop-place.invariant.padded;
        },
      );
    }
