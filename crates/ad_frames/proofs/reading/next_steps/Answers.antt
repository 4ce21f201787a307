use Rattle.std.proofs.Common.{◌≡◌, length, arith, refl}
use Rattle.ad_frames.proofs.SourceSteps.{told_more, cut, filled, steps_cut, steps_told}
use Rattle.ad_frames.proofs.Cutting.{cut_fewer}
use Rattle.ad_frames.specs.Reading.{steps_at}
use Rattle.ad_frames.proofs.reading.next_steps.Goals as goal

pub returns-then-n-lt-STEPS_BYTES-clause-read : goal.returns-then-n-lt-STEPS_BYTES-clause-read
returns-then-n-lt-STEPS_BYTES-clause-read g c =
    let size : length c.fill_within.new.into ≡ 4 = omega (arith, c.fill_within.auto.into) in
    let old = g.I.Source.rest c.args.source.now in
    let new = g.I.Source.rest c.fill_within.new.source in
    told_more old new _ _ (λ b a s. steps_cut b s.2)
    (cut old new c.in_ok-n.n 4 c.fill_within.new.into size c.if-n-lt-STEPS_BYTES.true c.in_ok-n.ensures.filled)

pub returns-clause-read : goal.returns-clause-read
returns-clause-read g c =
    let size : length c.fill_within.new.into ≡ 4 = omega (arith, c.fill_within.auto.into) in
    let old = g.I.Source.rest c.args.source.now in
    let new = g.I.Source.rest c.fill_within.new.source in
    steps_told old new c.steps.result c.fill_within.new.into c.steps.ensures.read
    (filled old new c.in_ok-n.n 4 c.fill_within.new.into size c.if-n-lt-STEPS_BYTES.false c.in_ok-n.ensures.filled)

pub returns-in_err-n-clause-cut : goal.returns-in_err-n-clause-cut
returns-in_err-n-clause-cut g c = λ _.
    cut_fewer (g.I.Source.rest c.args.source.now) (g.I.Source.rest c.fill_within.new.source) 4 _ steps_at steps_cut
    (omega arith) (c.in_err-n.ensures.cut refl)
