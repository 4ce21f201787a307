use Rattle.std.proofs.Common.{◌≡◌, ◌<◌, List, ℕ, length, Ok, sym, ◌∙◌, arith, refl}
use Rattle.std.proofs.lemmas.Result.{err_from_is_err_and}
use Rattle.ad_bytes.specs.Numbers.{part_at}
use Rattle.ad_frames.specs.Reading.{option_header_at}
use Rattle.ad_frames.proofs.SourceSteps.{told_more, cut, filled, option_none, option_cut, option_read, option_wrong}
use Rattle.ad_frames.proofs.SourceSteps.{fault_here}
use Rattle.ad_frames.proofs.Cutting.{cut_fewer}
use Rattle.ad_frames.proofs.SourceSteps.{header_cut}
use Rattle.ad_frames.specs.Reading.{header_at}
use Rattle.ad_frames.proofs.reading.next_header.Goals as goal

pub returns-then-n-eq0-clause-read : goal.returns-then-n-eq0-clause-read
returns-then-n-eq0-clause-read g c =
    let seven : length c.fill_within.new.into ≡ 7 = omega (arith, c.fill_within.auto.into) in
    let old = g.I.Source.rest c.args.source.now in
    let new = g.I.Source.rest c.fill_within.new.source in
    told_more old new _ _ (λ b a s. option_none b a (s.0 ∙ c.if-n-eq0.true) s.1)
    (cut old new c.in_ok-n.n 7 c.fill_within.new.into seven (omega arith) c.in_ok-n.ensures.filled)

pub returns-then-n-lt-HEADER-clause-read : goal.returns-then-n-lt-HEADER-clause-read
returns-then-n-lt-HEADER-clause-read g c =
    let seven : length c.fill_within.new.into ≡ 7 = omega (arith, c.fill_within.auto.into) in
    let old = g.I.Source.rest c.args.source.now in
    let new = g.I.Source.rest c.fill_within.new.source in
    told_more old new _ _ (λ b a s. let some : 0 < length b = omega (arith, s.0) in option_cut b some s.2)
    (cut old new c.in_ok-n.n 7 c.fill_within.new.into seven c.if-n-lt-HEADER.true c.in_ok-n.ensures.filled)

pub returns-in_err-header-clause-read : goal.returns-in_err-header-clause-read
returns-in_err-header-clause-read g c =
    let seven : length c.fill_within.new.into ≡ 7 = omega (arith, c.fill_within.auto.into) in
    let p = err_from_is_err_and c.from_residual-in_err-header.result c.from_residual-in_err-header.ensures.1 in
    let old = g.I.Source.rest c.args.source.now in
    let new = g.I.Source.rest c.fill_within.new.source in
    rw (p.1, p.2) (fault_here old new c.in_err-header.field-0.0
    (λ (b a : List ℕ). part_at 7 b ≡ Ok (c.fill_within.new.into, a)) option_header_at
    (λ b a e. option_wrong b c.fill_within.new.into a c.in_err-header.field-0.0 e
    (sym c.in_err-header.ensures.read))
    (filled old new c.in_ok-n.n 7 c.fill_within.new.into seven c.if-n-lt-HEADER.false c.in_ok-n.ensures.filled))

pub returns-clause-read : goal.returns-clause-read
returns-clause-read g c =
    let seven : length c.fill_within.new.into ≡ 7 = omega (arith, c.fill_within.auto.into) in
    let old = g.I.Source.rest c.args.source.now in
    let new = g.I.Source.rest c.fill_within.new.source in
    told_more old new _ _ (λ b a e. option_read b c.fill_within.new.into a c.in_ok-header.header e
    (sym c.in_ok-header.ensures.read))
    (filled old new c.in_ok-n.n 7 c.fill_within.new.into seven c.if-n-lt-HEADER.false c.in_ok-n.ensures.filled)

pub returns-in_err-n-clause-cut : goal.returns-in_err-n-clause-cut
returns-in_err-n-clause-cut g c = λ _.
    cut_fewer (g.I.Source.rest c.args.source.now) (g.I.Source.rest c.fill_within.new.source) 7 _ header_at header_cut
    (omega arith) (c.in_err-n.ensures.cut refl)
