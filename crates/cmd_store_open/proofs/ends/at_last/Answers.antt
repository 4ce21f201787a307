use Rattle.std.proofs.Common.{◌<◌, length, inl, inr, refl, arith}
use Rattle.cmd_store_open.proofs.Last.{took_none, took_some, took_not}
use Rattle.cmd_store_open.proofs.ends.at_last.Goals as goal

pub returns-in-Ok-eq0 : goal.returns-in-Ok-eq0
returns-in-Ok-eq0 g c =
    let rest = g.I.Source.rest in
    let room : 0 < length c.take.new.into = omega (arith, c.take.auto.into) in
    record {
      whole = λ _. took_none (rest c.args.source.now) (rest c.take.new.self) c.in-Ok-eq0.field-0 c.take.new.into
          c.in-Ok-eq0.field-0-test room c.in-Ok-eq0.ensures.next;
      over = λ no. absurd cc;
      cut = λ no. absurd cc;
      never_falls = c.take.ensures.never_falls;
      only = inl refl;
    }

pub returns-in-Ok : goal.returns-in-Ok
returns-in-Ok g c =
    let rest = g.I.Source.rest in
    let some : 0 < c.in-Ok.field-0 = omega (arith, c.in-Ok.field-0-test) in
    record {
      whole = λ no. absurd cc;
      over = λ _. took_some (rest c.args.source.now) (rest c.take.new.self) c.in-Ok.field-0 c.take.new.into some
          c.in-Ok.ensures.within c.in-Ok.ensures.next;
      cut = λ no. absurd cc;
      never_falls = c.take.ensures.never_falls;
      only = inr (inl refl);
    }

pub returns-in-Err : goal.returns-in-Err
returns-in-Err g c =
    let rest = g.I.Source.rest in
    record {
      whole = λ no. absurd cc;
      over = λ no. absurd cc;
      cut = λ _. (
        took_not (rest c.args.source.now) (rest c.take.new.self) c.in-Err.ensures.next,
        c.in-Err.ensures.cause refl,
      );
      never_falls = c.take.ensures.never_falls;
      only = inr (inr refl);
    }
