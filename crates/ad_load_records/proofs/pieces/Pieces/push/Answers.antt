use Rattle.std.proofs.Common.{◌+◌, length, refl, sym, ◌∙◌, arith}
use Rattle.ad_load_records.specs.Faults.{at}
use Rattle.ad_load_records.proofs.Cutting.{long_more, short_more, long_gives, open_next, fault_next, stopped_next}
use Rattle.ad_load_records.proofs.Cutting.{some_stop, none_stop}
use Rattle.ad_load_records.proofs.pieces.Pieces.push.Goals as goal

pub returns-then-piece-self-clause-more : goal.returns-then-piece-self-clause-more
returns-then-piece-self-clause-more c = rw (sym c.self.view_is)
    (long_more (c.self.inside.count + length c.args.piece.now) (omega (arith, c.if-piece-self.true)))

pub returns-then-piece-self-clause-long : goal.returns-then-piece-self-clause-long
returns-then-piece-self-clause-long c = λ _ rest.
    rw (sym c.self.view_is) (long_gives _ c.args.piece.now rest (omega (arith, c.if-piece-self.true)))

pub returns-then-is_some-clause-more : goal.returns-then-is_some-clause-more
returns-then-is_some-clause-more c = rw (sym c.self.view_is)
    (short_more (c.self.inside.count + length c.args.piece.now)
    (omega (arith, c.if-piece-self.false, c.self.inside.few)))

pub returns-then-is_some-clause-next : goal.returns-then-is_some-clause-next
returns-then-is_some-clause-next c = λ _ rest.
    let stop = some_stop (λ s. at s.0 s.1) c.self.inside.stop (sym c.is_some.ensures ∙ c.if-is_some.true) in
    rw (sym c.self.view_is) (stopped_next _ _ c.args.piece.now rest stop.0 stop.1 stop.1 refl)

pub returns-in-Ok-clause-more : goal.returns-in-Ok-clause-more
returns-in-Ok-clause-more c = rw (sym c.self.view_is)
    (short_more (c.self.inside.count + length c.args.piece.now)
    (omega (arith, c.if-piece-self.false, c.self.inside.few)))

pub returns-in-Ok-clause-next : goal.returns-in-Ok-clause-next
returns-in-Ok-clause-next c = λ _ rest.
    let none = none_stop (λ s. at s.0 s.1) c.self.inside.stop (sym c.is_some.ensures ∙ c.if-is_some.false) in
    rw (sym c.self.view_is) (open_next _ _ c.args.piece.now rest none none refl (c.in-Ok.ensures.next rest))

pub returns-in-Err-Bad-clause-more : goal.returns-in-Err-Bad-clause-more
returns-in-Err-Bad-clause-more c = rw (sym c.self.view_is)
    (short_more (c.self.inside.count + length c.args.piece.now)
    (omega (arith, c.if-piece-self.false, c.self.inside.few)))

pub returns-in-Err-Bad-clause-next : goal.returns-in-Err-Bad-clause-next
returns-in-Err-Bad-clause-next c = λ _ rest.
    let none = none_stop (λ s. at s.0 s.1) c.self.inside.stop (sym c.is_some.ensures ∙ c.if-is_some.false) in
    let fault = (rw c.in-Err-Bad.field-0-is at c.in-Err-Bad.ensures.fault) refl rest in
    rw (sym c.self.view_is) (fault_next _ _ c.args.piece.now rest _ none refl refl fault)
