-- What is counted tells who holds links.
use Rattle.std.proofs.Common.{◌≡◌, ℕ, ◌+◌, ◌<◌, ◌≤◌, ◌-◌, ◌^◌, Bool, true, false, Option, Result, Ok, Err, List, []}
use Rattle.std.proofs.Common.{◌∷◌, inl, inr, sym, subst, ap, arith}
use Rattle.std.specs.Prelude.{nat_eq, filter_map, IfSome, IsSomeAnd, OnOk, OnErr}
use Rattle.std.specs.List.{AllByRecursion, list_any}
use Rattle.std.proofs.lemmas.Bool.{cases_Bool, cases_lt, both_ways, eqb-true, eq-eqb}
use Rattle.ad_schema.specs.declared.line.SchemaRecord.{SchemaRecord}
use Rattle.ad_dir_model.specs.Object.{Stored, plain, link, Held, Object, names, stored_in}
use Rattle.ad_dir_model.specs.Objects.{object_of, put}
use Rattle.ad_dir_model.proofs.Finding.{of_number, live-of}
use Rattle.ad_value.specs.declared.value.Key.{Key}
use Rattle.ad_value.specs.Value.{same_key}
use Rattle.ad_value.specs.declared.syntax.Syntax.TheVariants as syntax
use Rattle.ad_dir_model.specs.Shown.{computed}
use Rattle.ad_value.proofs.OrderLaws.{same_key_decides}
use Rattle.ad_schema.specs.Meaning.{attr_is_link}
use Rattle.ad_dir_model.specs.Soundness.{IsStored, IsHeld}
use Rattle.ad_dir_links.specs.Marks.{mark, name_mark, is_indexed, tie, ties_in, all_ties}
use Rattle.ad_dir_links.specs.Counted.{times, counted, Covers, AreCounted}
use Rattle.ad_dir_links.specs.Changing.{IsBalanced, ties_found, object_ties}
use Rattle.ad_dir_links.specs.Counted.{Adds, Drops}
use Rattle.ad_dir_links.proofs.Counting.{times_append}
use Rattle.ad_dir_links.proofs.Laws.{keeps_counted, taken_back, put_counted}
use Rattle.ad_sd.specs.declared.parts.Sd.{Sd}
use Rattle.ad_dir_objects.specs.declared.object.Object.{Object as ObjectIn}
use Rattle.ad_dir_objects.specs.Seen.{object_seen}
use Rattle.ad_dir_table.specs.Entry.{Entry, objects_in}
use Rattle.ad_dir.specs.Standing.{AreStanding}
use Rattle.ad_dir.specs.Holders.{IsNextHolder}
use Rattle.ad_dir.specs.Values.{may_have, IsNextWith, IsNextNamed, AreMarked}

-- a link among values stands among their targets
named : (counts : Bool) (attr target : ℕ) (values : List Stored) → names target values ≡ true → 0
    < times target (filter_map (tie counts attr) values)
unfolding times
named counts attr target [] is = absurd cc
named true attr target (plain v ∷ values) is = let rest = named true attr target values is in omega (arith, rest)
named false attr target (plain v ∷ values) is = named false attr target values is
named counts attr target (link n ∷ values) is = elim (cases_Bool (nat_eq n target)) [
  | inl here ↦ rw here (omega arith)
  | inr other ↦ let rest = named counts attr target values (rw other at is) in rw other (omega (arith, rest))
]

-- those of one attribute and of the others
ties_both : (indexed : List Bool) (target : ℕ) (held : Held) (others : List Held)
    → times target (ties_in indexed (held ∷ others))
    ≡ times target (filter_map (tie (is_indexed indexed held.attr) held.attr) held.values)
    + times target (ties_in indexed others)
unfolding ties_in
ties_both indexed target held others = times_append target
    (filter_map (tie (is_indexed indexed held.attr) held.attr) held.values) (ties_in indexed others)

among : (indexed : List Bool) (target : ℕ) (values : List Held) → list_any (λ (held : Held). names target held.values)
    values ≡ true → 0 < times target (ties_in indexed values)
among indexed target [] is = absurd cc
among indexed target (held ∷ others) is =
    let both = ties_both indexed target held others in
    elim (cases_Bool (names target held.values)) [
      | inl here ↦ let some = named (is_indexed indexed held.attr) held.attr target held.values here
          in omega (arith, both, some)
      | inr none ↦ let some = among indexed target others (rw none at is) in omega (arith, both, some)
    ]

-- behind the mark of the name
behind_name : (indexed : List Bool) (target : ℕ) (name : List ℕ) (values : List Held) → 0
    < times target (ties_in indexed values) → 0 < times target (all_ties indexed name values)
unfolding times
behind_name indexed target name values some = omega (arith, some)

-- ---- values

-- a value with the key counts as its mark
marked : (schema : List SchemaRecord) (attr : ℕ) (key : Key) (values : List Stored) → attr_is_link schema attr ≡ false
    → AllByRecursion (IsStored schema attr) values
    → list_any (may_have key) values ≡ true → 0 < times (mark attr key) (filter_map (tie true attr) values)
unfolding times
marked schema attr key [] none each is = absurd cc
marked schema attr key (plain v ∷ values) none each is = elim (cases_Bool (same_key v.key key)) [
  | inl same ↦
      let here : nat_eq (mark attr v.key) (mark attr key) ≡ true = eq-eqb (mark attr v.key) (mark attr key)
      (ap (mark attr) ((same_key_decides v.key key).0 same)) in
      rw here (omega arith)
  | inr other ↦ let rest = marked schema attr key values none each.1 (rw other at is) in omega (arith, rest)
]
marked schema attr key (link n ∷ values) none each is = absurd (both_ways (attr_is_link schema attr) none each.0)

stored_marked : (schema : List SchemaRecord) (indexed : List Bool) (attr : ℕ) (key : Key) (values : List Held)
    → AreMarked schema indexed attr → AllByRecursion (IsHeld schema) values
    → list_any (may_have key) (stored_in values attr) ≡ true → 0 < times (mark attr key) (ties_in indexed values)
unfolding stored_in
stored_marked schema indexed attr key [] are each is = absurd cc
stored_marked schema indexed attr key (held ∷ others) are each is =
    let both = ties_both indexed (mark attr key) held others in
    elim (cases_Bool (nat_eq held.attr attr)) [
      | inl here ↦
          let same : held.attr ≡ attr = eqb-true held.attr attr here in
          let some : 0 < times (mark attr key) (filter_map (tie (is_indexed indexed held.attr) held.attr) held.values) =
          subst (λ (n : ℕ). 0 < times (mark attr key) (filter_map (tie (is_indexed indexed n) n) held.values))
          (sym same)
          (subst (λ (counts : Bool). 0 < times (mark attr key) (filter_map (tie counts attr) held.values))
          (sym are.flagged)
          (marked schema attr key held.values are.no_link
          (subst (λ (n : ℕ). AllByRecursion (IsStored schema n) held.values) same each.0.each) (rw here at is)))
          in
          omega (arith, both, some)
      | inr other ↦ let some = stored_marked schema indexed attr key others are each.1 (rw other at is)
          in omega (arith, both, some)
    ]

some_counted : (count n : ℕ) → Covers count n → 0 < n → 0 < count
some_counted count n covers some = elim (cases_lt count (2 ^ 32 - 1)) [
  | inl below ↦ let enough : n ≤ count = covers below in omega (arith, enough, some)
  | inr most ↦ omega (arith, most)
]

pub next_found : (schema : List SchemaRecord) (indexed : List Bool) (entries : List (ℕ × ℕ)) (objects : List Object)
    (target above : ℕ) (result : Option ℕ) → AreStanding schema objects → AreCounted indexed entries objects
    → IfSome result (λ holder. above < holder)
    → ((holder : ℕ) → holder < 2 ^ 32 → above < holder → 0 < counted entries target holder
    → IsSomeAnd result (λ next. next ≤ holder))
    → IsNextHolder objects target above result
next_found schema indexed entries objects target above result stand all more least = record {
  is_above = more;
  each = λ n o live holds above_n.
      let own : o.number ≡ n = of_number objects n o live in
      let small : n < 2 ^ 32 - 1 = stand.small n (live-of objects n o live) in
      let small_n : n < 2 ^ 32 = omega (arith, small) in
      let covers = all n o live (omega (arith, small, own)) target in
      least n small_n above_n (subst (λ (k : ℕ). 0 < counted entries target k) own
      (some_counted (counted entries target o.number) (times target (all_ties indexed o.name o.values)) covers
      (behind_name indexed target o.name o.values (among indexed target o.values holds))));
}

-- the same of what stores a value
pub next_marked : (schema : List SchemaRecord) (indexed : List Bool) (entries : List (ℕ × ℕ)) (objects : List Object)
    (attr : ℕ) (key : Key) (above : ℕ) (result : Option ℕ) → AreStanding schema objects
    → AreCounted indexed entries objects → AreMarked schema indexed attr
    → IfSome result (λ holder. above < holder)
    → ((holder : ℕ) → holder < 2 ^ 32 → above < holder → 0 < counted entries (mark attr key) holder
    → IsSomeAnd result (λ next. next ≤ holder))
    → IsNextWith objects attr key above result
next_marked schema indexed entries objects attr key above result stand all are more least = record {
  is_above = more;
  each = λ n o live stores above_n.
      let own : o.number ≡ n = of_number objects n o live in
      let small : n < 2 ^ 32 - 1 = stand.small n (live-of objects n o live) in
      let small_n : n < 2 ^ 32 = omega (arith, small) in
      let covers = all n o live (omega (arith, small, own)) (mark attr key) in
      least n small_n above_n (subst (λ (k : ℕ). 0 < counted entries (mark attr key) k) own
      (some_counted (counted entries (mark attr key) o.number)
      (times (mark attr key) (all_ties indexed o.name o.values)) covers
      (behind_name indexed (mark attr key) o.name o.values
      (stored_marked schema indexed attr key o.values are (stand.content n o live).each stores))));
}

pub next_behind : (schema : List SchemaRecord) (objects : List Object) (attr : ℕ) (key : Key) (above : ℕ)
    (result : Option ℕ) → AreStanding schema objects
    → IfSome result (λ next. above < next)
    → ((number : ℕ) → number < 4294967295 → above < number → IsSomeAnd result (λ next. next ≤ number))
    → IsNextWith objects attr key above result
next_behind schema objects attr key above result stand more least = record {
  is_above = more;
  each = λ n o live stores above_n. let small : n < 2 ^ 32 - 1 = stand.small n (live-of objects n o live)
      in least n (omega (arith, small)) above_n;
}

-- the mark of a naming value
named_so : (indexed : List Bool) (key : Key) (name : List ℕ) (values : List Held)
    → same_key (computed syntax.Unicode name).key key ≡ true → 0 < times (mark 4294967295 key)
    (all_ties indexed name values)
unfolding times name_mark
named_so indexed key name values same =
    let here : nat_eq (mark 4294967295 (computed syntax.Unicode name).key) (mark 4294967295 key) ≡ true =
    eq-eqb (mark 4294967295 (computed syntax.Unicode name).key) (mark 4294967295 key)
    (ap (mark 4294967295) ((same_key_decides (computed syntax.Unicode name).key key).0 same)) in
    rw here (omega arith)

-- the same of what has a naming value
pub next_so_named : (schema : List SchemaRecord) (indexed : List Bool) (entries : List (ℕ × ℕ))
    (objects : List Object) (key : Key) (above : ℕ) (result : Option ℕ) → AreStanding schema objects
    → AreCounted indexed entries objects
    → IfSome result (λ holder. above < holder)
    → ((holder : ℕ) → holder < 2 ^ 32 → above < holder → 0 < counted entries (mark 4294967295 key) holder
    → IsSomeAnd result (λ next. next ≤ holder))
    → IsNextNamed objects key above result
next_so_named schema indexed entries objects key above result stand all more least = record {
  is_above = more;
  each = λ n o live so above_n.
      let own : o.number ≡ n = of_number objects n o live in
      let small : n < 2 ^ 32 - 1 = stand.small n (live-of objects n o live) in
      let small_n : n < 2 ^ 32 = omega (arith, small) in
      let covers = all n o live (omega (arith, small, own)) (mark 4294967295 key) in
      least n small_n above_n (subst (λ (k : ℕ). 0 < counted entries (mark 4294967295 key) k) own
      (some_counted (counted entries (mark 4294967295 key) o.number)
      (times (mark 4294967295 key) (all_ties indexed o.name o.values)) covers
      (named_so indexed key o.name o.values so)));
}

-- whether the put went well or not
pub either_counted : {A E : Type 0} (r : Result A E) (indexed : List Bool) (old mid new : List (ℕ × ℕ)) (o : ObjectIn)
    (sd : Sd) (os after : List Object) (more less : List ℕ) → AreCounted indexed old os
    → Adds o.number more old mid → IsBalanced (ties_found indexed (object_of os o.number)) (object_ties indexed o)
    more less
    → OnOk r (Drops o.number less mid new) → OnErr r (Drops o.number more mid new)
    → OnOk r (after ≡ put (object_seen o sd) os) → OnErr r (after ≡ os) → AreCounted indexed new after
either_counted (Ok x) indexed old mid new o sd os after more less all adds balanced drops back ok err =
    subst (AreCounted indexed new) (sym ok) (put_counted indexed old mid new o sd os more less all adds drops balanced)
either_counted (Err e) indexed old mid new o sd os after more less all adds balanced drops back ok err =
    subst (AreCounted indexed new) (sym err)
    (keeps_counted indexed old new os (taken_back o.number more old mid new adds back) all)

pub same_on_err : {A E : Type 0} (r : Result A E) (old new : List Entry) → OnErr r (new ≡ old)
    → OnErr r (objects_in new ≡ objects_in old)
same_on_err (Ok x) old new same = tt
same_on_err (Err e) old new same = ap objects_in same
