-- What is asked of the whole directory, after an object was put in the place of one with its identifier.
use Rattle.std.proofs.Common.{◌≡◌, ℕ, ◌+◌, ◌<◌, ◌≤◌, true, List, [], ◌∷◌, length, Option, Some, inl, inr, refl, sym}
use Rattle.std.proofs.Common.{subst, ap, arith, ◌∙◌}
use Rattle.std.specs.Prelude.{nat_eq, nat_lt}
use Rattle.std.specs.Option.{option_and_then}
use Rattle.std.proofs.lemmas.Bool.{eqb-true, eqb-false, ltb-true, cases_Bool}
use Rattle.std.proofs.lemmas.Option.{none-some, same_Some}
use Rattle.std.proofs.lemmas.List.{length-map}
use Rattle.ad_ids.specs.SidValue.{SidValue}
use Rattle.ad_ids.specs.SidChild.{child_of}
use Rattle.ad_sd.specs.declared.parts.Sd.{Sd}
use Rattle.ad_schema.specs.declared.line.SchemaRecord.{SchemaRecord}
use Rattle.prop_queue.specs.declared.pending.Pending.{Pending}
use Rattle.ad_dir_model.specs.Object.{Object}
use Rattle.ad_dir_model.specs.Objects.{RiseAbove, Rise, numbers, object_of, is_live, object_at, put}
use Rattle.ad_dir_model.specs.Tree.{root}
use Rattle.ad_dir_model.specs.Identity.{sid_in, domain_sid, domain_child}
use Rattle.ad_dir_model.specs.Limits.{max_weight}
use Rattle.ad_dir_model.specs.Directory.{Directory, with_objects}
use Rattle.ad_dir_model.specs.Weight.{object_weight, objects_weight, weight}
use Rattle.ad_dir_model.specs.Soundness.{AreCounters, AreWithinLimits, IsSoundFrame}
use Rattle.ad_dir_model.proofs.Finding.{at-of, live-of, of_above, at-put_same, at-put_other, live-put, live-put_other}
use Rattle.ad_dir_model.proofs.Finding.{numbers-put}
use Rattle.ad_dir_model.proofs.Inheriting.{placed}
use Rattle.ad_dir_model.proofs.Placing.{put_or_before}

-- ---- number and weight of the objects

pub length-put : (o : Object) (os : List Object) → Rise os → is_live os o.number ≡ true → length (put o os) ≡ length os
unfolding numbers
length-put o os rise live =
    sym (length-map (put o os) (λ (x : Object). x.number)) ∙ ap length (numbers-put 0 o os rise live)
    ∙ length-map os (λ (x : Object). x.number)

pub weight-put : (schema : List SchemaRecord) (m : ℕ) (o old : Object) (os : List Object) → RiseAbove m os
    → object_of os o.number ≡ Some old
    → object_weight schema o ≤ object_weight schema old → objects_weight schema (put o os) ≤ objects_weight schema os
unfolding objects_weight put object_of
weight-put schema m o old [] rise is le = absurd (none-some old is)
weight-put schema m o old (x ∷ xs) rise is le =
    elim (cases_Bool (nat_eq x.number o.number)) [
      | inl same ↦ let itself : x ≡ old = same_Some x old (rw same at is) in rw (same, itself) (omega arith)
      | inr apart ↦ elim (cases_Bool (nat_lt o.number x.number)) [
        | inl less ↦
            let below : o.number < x.number = ltb-true o.number x.number less in
            let above : x.number < o.number = of_above x.number xs o.number old rise.1 (rw apart at is) in
            absurd (omega arith)
        | inr least ↦
            let rest : objects_weight schema (put o xs) ≤ objects_weight schema xs = weight-put schema x.number o old
            xs rise.1 (rw apart at is) le in
            rw (apart, least) (omega arith)
      ]
    ]

-- the weight doesn't look at descriptors
pub weight_any_sd : (schema : List SchemaRecord) (o : Object) (sd : Sd) (os : List Object)
    → objects_weight schema (put (record o { sd = sd }) os) ≡ objects_weight schema (put o os)
unfolding objects_weight object_weight put
weight_any_sd schema o sd [] = refl
weight_any_sd schema o sd (x ∷ xs) =
    elim (cases_Bool (nat_eq x.number o.number)) [
      | inl same ↦ rw same refl
      | inr apart ↦ elim (cases_Bool (nat_lt o.number x.number)) [
        | inl less ↦ rw (apart, less) refl
        | inr least ↦ rw (apart, least) (ap (λ (rest : ℕ). object_weight schema x + rest)
            (weight_any_sd schema o sd xs))
      ]
    ]

pub weight_settled : (dir : Directory) (o : Object) (sd : Sd)
    → weight (with_objects (put (record o { sd = sd }) dir.objects) dir)
    ≡ weight (with_objects (put o dir.objects) dir)
unfolding weight
weight_settled dir o sd = weight_any_sd dir.schema o sd dir.objects

-- ---- an object in the place of another one

pub record KeepsFrame (dir : Directory) (o old : Object) : Type 0 where
  pub live : object_of dir.objects o.number ≡ Some old
  pub sid : sid_in dir.schema o ≡ sid_in dir.schema old
  pub weight : weight (with_objects (put o dir.objects) dir) ≤ max_weight

-- a lighter object is none too heavy
pub lighter : (dir : Directory) (o old : Object) → Rise dir.objects → AreWithinLimits dir
    → object_of dir.objects o.number ≡ Some old
    → object_weight dir.schema o ≤ object_weight dir.schema old → weight (with_objects (put o dir.objects) dir)
    ≤ max_weight
unfolding weight
lighter dir o old rise limits live le =
    let less = weight-put dir.schema 0 o old dir.objects rise live le in
    let before = limits.weight in
    omega (arith, less, before)

pub domain_placed : (dir : Directory) (o old : Object) (pending : List Pending) → KeepsFrame dir o old
    → domain_sid (placed dir o pending) ≡ domain_sid dir
unfolding domain_sid
domain_placed dir o old pending keeps =
    elim (cases_Bool (nat_eq o.number root)) [
      | inl same ↦ subst (λ (n : ℕ). sid_in dir.schema (object_at (put o dir.objects) n)
          ≡ sid_in dir.schema (object_at dir.objects n)) (eqb-true o.number root same)
          (ap (sid_in dir.schema) (at-put_same o dir.objects) ∙ keeps.sid
          ∙ ap (sid_in dir.schema) (sym (at-of dir.objects o.number old keeps.live)))
      | inr differ ↦ ap (sid_in dir.schema) (at-put_other o dir.objects root (eqb-false o.number root differ))
    ]

pub domain_child_placed : (dir : Directory) (o old : Object) (pending : List Pending) (rid : ℕ) → KeepsFrame dir o old
    → domain_child (placed dir o pending) rid ≡ domain_child dir rid
unfolding domain_child
domain_child_placed dir o old pending rid keeps
    = ap (λ (domain : Option SidValue). option_and_then (λ (s : SidValue). child_of s rid) domain)
    (domain_placed dir o old pending keeps)

pub live_before : (o : Object) (os : List Object) (n : ℕ) → is_live os o.number ≡ true → is_live (put o os) n ≡ true
    → is_live os n ≡ true
live_before o os n live is =
    elim (cases_Bool (nat_eq o.number n)) [
      | inl same ↦ subst (λ (k : ℕ). is_live os k ≡ true) (eqb-true o.number n same) live
      | inr differ ↦ sym (live-put_other o os n (eqb-false o.number n differ)) ∙ is
    ]

counters_placed : (dir : Directory) (o old : Object) (pending : List Pending) → KeepsFrame dir o old → AreCounters dir
    → AreCounters (placed dir o pending)
counters_placed dir o old pending keeps counters = record {
  number_above = λ n live. counters.number_above n
      (live_before o dir.objects n (live-of dir.objects o.number old keeps.live) live);
  rid_above = λ n x rid sid is has child.
      let before : domain_child dir rid ≡ Some sid = sym (domain_child_placed dir o old pending rid keeps) ∙ child in
      elim (put_or_before o dir.objects n x is) [
        | inl itself ↦ counters.rid_above o.number old rid sid keeps.live (sym keeps.sid ∙ rw itself has) before
        | inr from_before ↦ counters.rid_above n x rid sid from_before.live has before
      ];
  number_fits = counters.number_fits;
  rid_fits = counters.rid_fits;
}

limits_placed : (dir : Directory) (o old : Object) (pending : List Pending) → Rise dir.objects → KeepsFrame dir o old
    → AreWithinLimits dir → AreWithinLimits (placed dir o pending)
unfolding weight
limits_placed dir o old pending rise keeps limits = record {
  objects = rw (length-put o dir.objects rise (live-of dir.objects o.number old keeps.live)) limits.objects;
  weight = keeps.weight;
  suffix = limits.suffix;
  records = limits.records;
}

pub frame_placed : (dir : Directory) (o old : Object) (pending : List Pending) → Rise dir.objects → IsSoundFrame dir
    → KeepsFrame dir o old → IsSoundFrame (placed dir o pending)
frame_placed dir o old pending rise frame keeps = record {
  schema = rw (domain_placed dir o old pending keeps) frame.schema;
  counters = counters_placed dir o old pending keeps frame.counters;
  limits = limits_placed dir o old pending rise keeps frame.limits;
  root_live = live-put o dir.objects root frame.root_live;
}
