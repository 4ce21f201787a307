use Rattle.std.proofs.Common.{◌∙◌, inl, inr, sym, ap, List, ℕ}
use Rattle.std.specs.List.{list_any}
use Rattle.std.specs.Ordering.{nat_cmp}
use Rattle.std.specs.BTreeMap.{is_at}
use Rattle.ad_dir_objects.specs.Seen.{objects_of}
use Rattle.ad_rows_sound.proofs.Pends.{bad_at, pending_at, pending_done}
use Rattle.ad_rows_sound.proofs.Waits.{parents_at, absent_if_new, there_if_old}
use Rattle.ad_rows_sound.proofs.judging.first_bad_pending.Goals as goal

pub loop-i-init : goal.loop-i-init
loop-i-init c = record {
  good = record { live = tt; distinct = tt };
  seen = λ parent. ap (λ (ks : List ℕ). list_any (is_at (nat_cmp parent)) ks) c.new-parents.ensures.empty;
}

pub loop-i-preserved : goal.loop-i-preserved
loop-i-preserved c = record {
  good = pending_at (objects_of c.args.objects.now) c.args.pending.now c.loop-i.i _ c.loop-i-test.true
      (sym c.is_live.ensures ∙ c.if-not-is_live.false)
      (absent_if_new _ _ _ c.in_ok-is_new.ensures.added (c.loop-i.invariant.seen _) c.if-not-is_new.false)
      c.loop-i.invariant.good;
  seen = parents_at c.loop-i.parents c.insert.new.self c.args.pending.now c.loop-i.i _ c.loop-i-test.true
      c.loop-i.invariant.seen c.in_ok-is_new.ensures.updates;
}

pub returns-then-not-is_live : goal.returns-then-not-is_live
returns-then-not-is_live c = λ schema meta.
    bad_at schema (objects_of c.args.objects.now) c.args.pending.now meta c.loop-i.i _ c.loop-i-test.true
    (inl (sym c.is_live.ensures ∙ c.if-not-is_live.true)) c.loop-i.invariant.good

pub returns-then-not-is_new : goal.returns-then-not-is_new
returns-then-not-is_new c = λ schema meta.
    bad_at schema (objects_of c.args.objects.now) c.args.pending.now meta c.loop-i.i _ c.loop-i-test.true
    (inr (there_if_old _ _ _ c.in_ok-is_new.ensures.added (c.loop-i.invariant.seen _) c.if-not-is_new.true))
    c.loop-i.invariant.good

pub returns : goal.returns
returns c = λ schema meta. pending_done (objects_of c.args.objects.now) c.args.pending.now c.loop-i.i
    c.loop-i-test.false c.loop-i.invariant.good
