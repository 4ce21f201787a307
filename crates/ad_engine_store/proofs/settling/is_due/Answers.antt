use Rattle.std.proofs.Common.{◌≡◌, ◌∙◌, length, ap, sym, arith}
use Rattle.std.proofs.lemmas.List.{nil_from_length}
use Rattle.ad_engine_store.proofs.settling.is_due.Goals as goal

pub returns-then-most-eq0 : goal.returns-then-most-eq0
returns-then-most-eq0 c = record { due = λ some. absurd (omega (arith, some, c.if-most-eq0.true)) }

pub returns-then-len-eq0 : goal.returns-then-len-eq0
returns-then-len-eq0 c = record {
  due = λ _. nil_from_length c.args.dir.now.pending (sym (ap length c.queue.ensures) ∙ sym c.len.ensures.len
      ∙ c.if-len-eq0.true);
}

pub returns : goal.returns
returns c = record {
  due = record {
    some = c.if-most-eq0.false;
    pends = λ none. c.if-len-eq0.false (c.len.ensures.len ∙ ap length c.queue.ensures ∙ ap length none);
  };
}
