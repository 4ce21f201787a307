use Rattle.std.proofs.Common.{◌≡◌, ◌+◌, true, false, refl, sym, ◌∙◌, arith}
use Rattle.ad_ldif.specs.Change.{change_seen}
use Rattle.ad_ldif.specs.Changes.{untold_changes}
use Rattle.ad_ldif.specs.Records.{fault}
use Rattle.cmd_change.specs.Change.{fits, body_of}
use Rattle.cmd_change.proofs.Frames.{goes_on, all_framed, a_fault, a_long_message, one_less, ops_in}
use Rattle.cmd_change.proofs.changing.reply_to.Goals as goal

pub returns-then-not-branch : goal.returns-then-not-branch
returns-then-not-branch c =
    let told = (rw c.in-Ok-Some.field-0-is at c.in-Ok-Some.ensures).told in
    a_long_message c.args.input.now c.records.frames.items c.in_ok-refusal-in-Ok-Some.field-0.items c.records.id
    (untold_changes c.records.reader) (untold_changes c.next_change.new.self) (change_seen c.in-Ok-Some.change)
    c.requires c.records.invariant.answer told (sym c.in_ok-put_change-in-Ok-Some.ensures.fits ∙ c.if-not-branch.true)
    c.in_ok-refusal-in-Ok-Some.ensures

pub records-preserved-else-not-branch : goal.records-preserved-else-not-branch
records-preserved-else-not-branch c =
    let told = (rw c.in-Ok-Some.field-0-is at c.in-Ok-Some.ensures).told in
    record {
      answer = goes_on c.args.input.now c.records.frames.items c.put_change.new.into.items c.records.id
          (c.records.id + 1) (untold_changes c.records.reader) (untold_changes c.next_change.new.self)
          (change_seen c.in-Ok-Some.change)
          c.records.invariant.answer told (sym c.in_ok-put_change-in-Ok-Some.ensures.fits ∙ c.if-not-branch.false)
          (rw c.if-not-branch.false at c.in_ok-put_change-in-Ok-Some.ensures.put) refl;
      some = omega arith;
      few = omega (
        arith,
        one_less (untold_changes c.records.reader) (untold_changes c.next_change.new.self)
            (change_seen c.in-Ok-Some.change) told,
        c.records.invariant.few,
      );
      ops = (ops_in (untold_changes c.records.reader) (untold_changes c.next_change.new.self)
          (change_seen c.in-Ok-Some.change) told c.records.invariant.ops).1;
    }

pub records-preserved-else-not-branch-2 : goal.records-preserved-else-not-branch-2
records-preserved-else-not-branch-2 c =
    let told = (rw c.in-Ok-Some.field-0-is at c.in-Ok-Some.ensures).told in
    record {
      answer = goes_on c.args.input.now c.records.frames.items c.put_change.new.into.items c.records.id
          (c.records.id + 1) (untold_changes c.records.reader) (untold_changes c.next_change.new.self)
          (change_seen c.in-Ok-Some.change)
          c.records.invariant.answer told (sym c.in_ok-put_change-in-Ok-Some.ensures.fits ∙ c.if-not-branch.false)
          (rw c.if-not-branch.false at c.in_ok-put_change-in-Ok-Some.ensures.put) refl;
      some = omega arith;
      few = omega (
        arith,
        one_less (untold_changes c.records.reader) (untold_changes c.next_change.new.self)
            (change_seen c.in-Ok-Some.change) told,
        c.records.invariant.few,
      );
      ops = (ops_in (untold_changes c.records.reader) (untold_changes c.next_change.new.self)
          (change_seen c.in-Ok-Some.change) told c.records.invariant.ops).1;
    }

pub records-preserved-else-not-branch-3 : goal.records-preserved-else-not-branch-3
records-preserved-else-not-branch-3 c =
    let told = (rw c.in-Ok-Some.field-0-is at c.in-Ok-Some.ensures).told in
    record {
      answer = goes_on c.args.input.now c.records.frames.items c.put_change.new.into.items c.records.id
          (c.records.id + 1) (untold_changes c.records.reader) (untold_changes c.next_change.new.self)
          (change_seen c.in-Ok-Some.change)
          c.records.invariant.answer told (sym c.in_ok-put_change-in-Ok-Some.ensures.fits ∙ c.if-not-branch.false)
          (rw c.if-not-branch.false at c.in_ok-put_change-in-Ok-Some.ensures.put) refl;
      some = omega arith;
      few = omega (
        arith,
        one_less (untold_changes c.records.reader) (untold_changes c.next_change.new.self)
            (change_seen c.in-Ok-Some.change) told,
        c.records.invariant.few,
      );
      ops = (ops_in (untold_changes c.records.reader) (untold_changes c.next_change.new.self)
          (change_seen c.in-Ok-Some.change) told c.records.invariant.ops).1;
    }

pub records-preserved-else-not-branch-4 : goal.records-preserved-else-not-branch-4
records-preserved-else-not-branch-4 c =
    let told = (rw c.in-Ok-Some.field-0-is at c.in-Ok-Some.ensures).told in
    record {
      answer = goes_on c.args.input.now c.records.frames.items c.put_change.new.into.items c.records.id
          (c.records.id + 1) (untold_changes c.records.reader) (untold_changes c.next_change.new.self)
          (change_seen c.in-Ok-Some.change)
          c.records.invariant.answer told (sym c.in_ok-put_change-in-Ok-Some.ensures.fits ∙ c.if-not-branch.false)
          (rw c.if-not-branch.false at c.in_ok-put_change-in-Ok-Some.ensures.put) refl;
      some = omega arith;
      few = omega (
        arith,
        one_less (untold_changes c.records.reader) (untold_changes c.next_change.new.self)
            (change_seen c.in-Ok-Some.change) told,
        c.records.invariant.few,
      );
      ops = (ops_in (untold_changes c.records.reader) (untold_changes c.next_change.new.self)
          (change_seen c.in-Ok-Some.change) told c.records.invariant.ops).1;
    }

pub records-preserved : goal.records-preserved
records-preserved c =
    let told = (rw c.in-Ok-Some.field-0-is at c.in-Ok-Some.ensures).told in
    record {
      answer = goes_on c.args.input.now c.records.frames.items c.put_change.new.into.items c.records.id
          (c.records.id + 1) (untold_changes c.records.reader) (untold_changes c.next_change.new.self)
          (change_seen c.in-Ok-Some.change)
          c.records.invariant.answer told (sym c.in_ok-put_change-in-Ok-Some.ensures.fits ∙ c.if-not-branch.false)
          (rw c.if-not-branch.false at c.in_ok-put_change-in-Ok-Some.ensures.put) refl;
      some = omega arith;
      few = omega (
        arith,
        one_less (untold_changes c.records.reader) (untold_changes c.next_change.new.self)
            (change_seen c.in-Ok-Some.change) told,
        c.records.invariant.few,
      );
      ops = (ops_in (untold_changes c.records.reader) (untold_changes c.next_change.new.self)
          (change_seen c.in-Ok-Some.change) told c.records.invariant.ops).1;
    }

pub returns-in-Ok-None : goal.returns-in-Ok-None
returns-in-Ok-None c =
    let told = (rw c.in-Ok-None.field-0-is at c.in-Ok-None.ensures).told in
    all_framed c.args.input.now c.records.frames.items c.records.id (untold_changes c.records.reader) c.requires
    c.records.invariant.answer told

pub returns-in-Err-Bad : goal.returns-in-Err-Bad
returns-in-Err-Bad c =
    let told = (rw c.in-Err-Bad.field-0-is at c.in-Err-Bad.ensures).told in
    a_fault c.args.input.now c.records.frames.items c.in_ok-refusal-in-Err-Bad.field-0.items c.word_of.result.now
    c.records.id (untold_changes c.records.reader) (fault c.in-Err-Bad.line c.in-Err-Bad.kind)
    c.requires c.records.invariant.answer told c.word_of.ensures c.in_ok-refusal-in-Err-Bad.ensures
