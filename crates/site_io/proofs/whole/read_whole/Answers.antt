use Rattle.std.proofs.Common.{rules, ◌≡◌, ◌++◌, ℕ, List, take, length, arith, ◌∙◌, ap, refl, length-append}
use Rattle.std.proofs.lemmas.List.{length-take-le, take_at}
use Rattle.site_io.proofs.Counts.{risen_since}
use Rattle.site_io.proofs.Reading.{none_read, reads_on, reads_all, reads_more, leaves_an_end, stays_read}
use Rattle.site_io.proofs.whole.read_whole.Goals as goal

pub loop-chunk-init : goal.loop-chunk-init
loop-chunk-init g c = record {
  told = rw c.new-whole.ensures.items (none_read (g.I.Source.rest c.args.source.now));
  within = omega (arith, c.new-whole.ensures.len);
  never_falls = omega arith;
  room = c.in_ok-chunk.ensures;
}

pub returns-in_err-n-clause-told : goal.returns-in_err-n-clause-told
returns-in_err-n-clause-told g c =
    let rest = g.I.Source.rest in
    leaves_an_end (rest c.args.source.now) (rest c.take.new.self) c.loop-chunk.whole.items
    (stays_read (rest c.args.source.now) (rest c.loop-chunk.source) (rest c.take.new.self)
    c.loop-chunk.whole.items c.loop-chunk.invariant.told c.in_err-n.ensures.next)

pub returns-in_err-n-clause-cause : goal.returns-in_err-n-clause-cause
returns-in_err-n-clause-cause g c = λ _. risen_since _ _ _ c.loop-chunk.invariant.never_falls
    (c.in_err-n.ensures.cause refl)

pub returns-then-n-eq0-clause-whole : goal.returns-then-n-eq0-clause-whole
returns-then-n-eq0-clause-whole g c =
    let rest = g.I.Source.rest in
    reads_all (rest c.args.source.now) (rest c.loop-chunk.source) (rest c.take.new.self) c.loop-chunk.whole.items
    c.take.new.into c.in_ok-n.n c.if-n-eq0.true
    (omega (arith, c.take.auto.into, c.deref_mut.ensures.len, c.loop-chunk.invariant.room))
    c.loop-chunk.invariant.told c.in_ok-n.ensures.next

pub returns-then-n-eq0-clause-told : goal.returns-then-n-eq0-clause-told
returns-then-n-eq0-clause-told g c =
    let rest = g.I.Source.rest in
    leaves_an_end (rest c.args.source.now) (rest c.take.new.self) _
    (reads_on (rest c.args.source.now) (rest c.loop-chunk.source) (rest c.take.new.self) c.loop-chunk.whole.items
    c.take.new.into c.in_ok-n.n c.loop-chunk.invariant.told c.in_ok-n.ensures.next)

pub returns-then-n-limit-clause-whole : goal.returns-then-n-limit-clause-whole
returns-then-n-limit-clause-whole g c =
    let rest = g.I.Source.rest in
    reads_more (rest c.args.source.now) (rest c.take.new.self)
    (c.loop-chunk.whole.items ++ take c.in_ok-n.n c.take.new.into) c.args.limit
    (omega (
      arith,
      c.take.ensures.within,
      c.in_ok-n.ensures.within,
      c.if-n-limit.true,
      c.len.ensures,
      c.loop-chunk.whole.ok.0,
      c.loop-chunk.invariant.within,
      length-append c.loop-chunk.whole.items
          (take c.in_ok-n.n c.take.new.into),
      length-take-le c.in_ok-n.n c.take.new.into c.in_ok-n.ensures.within,
    ))
    (reads_on (rest c.args.source.now) (rest c.loop-chunk.source) (rest c.take.new.self) c.loop-chunk.whole.items
    c.take.new.into c.in_ok-n.n c.loop-chunk.invariant.told c.in_ok-n.ensures.next)

pub returns-then-n-limit-clause-told : goal.returns-then-n-limit-clause-told
returns-then-n-limit-clause-told g c =
    let rest = g.I.Source.rest in
    leaves_an_end (rest c.args.source.now) (rest c.take.new.self) _
    (reads_on (rest c.args.source.now) (rest c.loop-chunk.source) (rest c.take.new.self) c.loop-chunk.whole.items
    c.take.new.into c.in_ok-n.n c.loop-chunk.invariant.told c.in_ok-n.ensures.next)

pub loop-chunk-preserved : goal.loop-chunk-preserved
loop-chunk-preserved g c =
    let rest = g.I.Source.rest in
    record {
      told = let more = reads_on (rest c.args.source.now) (rest c.loop-chunk.source) (rest c.take.new.self)
          c.loop-chunk.whole.items c.take.new.into c.in_ok-n.n c.loop-chunk.invariant.told c.in_ok-n.ensures.next in
          let filled : length c.take.new.into ≡ c.loop-chunk.chunk.len
          = omega (arith, c.take.auto.into, c.deref_mut.ensures.len) in
          let seen = c.deref.ensures.value ∙ take_at c.take.new.into _ c.loop-chunk.chunk.len filled in
          let grown : c.keep.new.whole.items ≡ c.loop-chunk.whole.items ++ take c.in_ok-n.n c.take.new.into =
          c.in_ok-keep.ensures.grown ∙ ap (λ (l : List ℕ). c.loop-chunk.whole.items ++ take c.in_ok-n.n l) seen in
          rw grown more;
      within = search rules;
      never_falls = omega (arith, c.loop-chunk.invariant.never_falls, c.take.ensures.never_falls);
      room = c.loop-chunk.invariant.room;
    }

pub returns-in_err-keep-clause-told :
    goal.returns-in_err-keep-clause-told
returns-in_err-keep-clause-told g c =
    let rest = g.I.Source.rest in
    leaves_an_end (rest c.args.source.now) (rest c.take.new.self) _
    (reads_on (rest c.args.source.now) (rest c.loop-chunk.source) (rest c.take.new.self) c.loop-chunk.whole.items
    c.take.new.into c.in_ok-n.n c.loop-chunk.invariant.told c.in_ok-n.ensures.next)
