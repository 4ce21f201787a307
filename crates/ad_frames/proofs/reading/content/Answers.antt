use Rattle.std.proofs.Common.{◌≡◌, List, ℕ, length, Ok, refl, sym, ap, ◌∙◌, arith}
use Rattle.ad_frames.proofs.SourceSteps.{told_more, cut, filled, buffer_whole, content_cut, content_read}
use Rattle.ad_frames.proofs.Cutting.{cut_fewer}
use Rattle.ad_frames.specs.Reading.{content_at}
use Rattle.ad_frames.proofs.reading.content.Goals as goal

pub returns-then-n-len-clause-read : goal.returns-then-n-len-clause-read
returns-then-n-len-clause-read g c =
    let old = g.I.Source.rest c.args.source.now in
    let new = g.I.Source.rest c.fill_within.new.source in
    let size : length c.fill_within.new.into ≡ c.args.len = c.fill_within.auto.into ∙ c.deref_mut.ensures.len
    ∙ c.in_ok-bytes.ensures.len in
    told_more old new _ _ (λ b a s. content_cut c.args.len b s.2)
    (cut old new c.in_ok-n.n c.args.len c.fill_within.new.into size (omega (arith, c.in_ok-bytes.ensures.len))
    c.in_ok-n.ensures.filled)

pub returns-clause-read : goal.returns-clause-read
returns-clause-read g c =
    let old = g.I.Source.rest c.args.source.now in
    let new = g.I.Source.rest c.fill_within.new.source in
    let into = c.fill_within.new.into in
    let size : length into ≡ c.args.len = c.fill_within.auto.into ∙ c.deref_mut.ensures.len
    ∙ c.in_ok-bytes.ensures.len in
    let whole : c.from_vec.result ≡ into = c.from_vec.ensures ∙ buffer_whole into c.in_ok-bytes.bytes.items
    c.in_ok-bytes.bytes.len (c.fill_within.auto.into ∙ c.deref_mut.ensures.len) in
    told_more old new _ _ (λ b a e. content_read c.args.len b c.from_vec.result a
    (e ∙ ap (λ (x : List ℕ). Ok (x, a)) (sym whole)))
    (filled old new c.in_ok-n.n c.args.len into size (omega (arith, c.in_ok-bytes.ensures.len))
    c.in_ok-n.ensures.filled)

pub returns-in_err-n-clause-cut : goal.returns-in_err-n-clause-cut
returns-in_err-n-clause-cut g c = λ _.
    cut_fewer (g.I.Source.rest c.args.source.now) (g.I.Source.rest c.fill_within.new.source) c.args.len _
    (content_at c.args.len) (content_cut c.args.len)
    (c.deref_mut.ensures.len ∙ c.in_ok-bytes.ensures.len) (c.in_err-n.ensures.cut refl)
