-- What is found by the indexes has the entries of all objects.
use Rattle.std.proofs.Common.{◌≡◌, ℕ, zero, suc, ◌<◌, ◌≤◌, Bool, true, false, ◌&&◌, ◌||◌, List, [], ◌∷◌, ◌++◌, length}
use Rattle.std.proofs.Common.{Option, Some, None, inl, inr, refl, sym, subst, ap, ◌∙◌, arith}
use Rattle.std.specs.Prelude.{slice_get, nat_eq, nat_lt, ◌==◌, filter, codes, if◌then◌else◌, IsSomeAnd}
use Rattle.std.specs.List.{AllByRecursion, list_any}
use Rattle.std.proofs.lemmas.Bool.{cases_Bool, cases_lt, both_ways, eqb-true, eq-eqb}
use Rattle.std.proofs.lemmas.List.{append-nil}
use Rattle.std.proofs.lemmas.List.Folds.{list_any-append}
use Rattle.std.proofs.lemmas.Option.{none-some, same_Some}
use Rattle.ad_ids.specs.declared.token.Token.{Token}
use Rattle.ad_dn.specs.declared.rdn.Dn.{Dn}
use Rattle.ad_value.specs.declared.value.Key.{Key}
use Rattle.ad_value.specs.Value.{same_key}
use Rattle.ad_value.specs.declared.syntax.Syntax.{Syntax}
use Rattle.ad_value.specs.declared.syntax.Syntax.TheVariants as syntax
use Rattle.ad_schema.specs.declared.line.SchemaRecord.{SchemaRecord}
use Rattle.ad_schema.specs.declared.info.ClassInfo.{ClassInfo}
use Rattle.ad_schema.specs.Classes.{classes_of, naming_of}
use Rattle.ad_schema.proofs.LookupLemmas.{class_naming}
use Rattle.ad_ldap.specs.FilterValue.{FilterValue}
use Rattle.ad_ldap.specs.MessageValue.{SearchValue}
use Rattle.ad_filter.specs.ThreeValues.{is_true}
use Rattle.ad_filter.specs.Filtering.{truth}
use Rattle.ad_dir_model.specs.Object.{Object, stored_in}
use Rattle.ad_dir_model.specs.Objects.{Rise, object_at, is_live, numbers}
use Rattle.ad_dir_model.specs.Attributes.{is_named, syntax_at}
use Rattle.ad_dir_model.specs.Shown.{shown, computed, is_naming}
use Rattle.ad_dir_model.specs.Directory.{Directory}
use Rattle.ad_dir_model.proofs.Finding.{of-live, live_above}
use Rattle.ad_dir.specs.Standing.{AreStanding}
use Rattle.ad_dir.specs.Values.{may_have, may_store, IsNextWith, IsNextNamed}
use Rattle.ad_access_dir.specs.Sight.{is_visible}
use Rattle.ad_search.specs.declared.index_plan.IndexPlan.{IndexPlan}
use Rattle.ad_entries.specs.Seen.{reads, seen_of}
use Rattle.ad_search.specs.Search.{is_found}
use Rattle.ad_search.specs.Reads.{found_among}
use Rattle.ad_entries.specs.Rising.{is_in}
use Rattle.ad_entries.specs.Places.{place_if}
use Rattle.ad_search.specs.Needles.{has_key, IsPlain}
use Rattle.ad_search.specs.Indexed.{names_one, IsNever, IsBefore, IsNextFor, IsLeftOfAll}
use Rattle.ad_search.specs.Needed.{IsMet, IsNeededBy, IsNextOf}
use Rattle.ad_search.proofs.NeedleLaws.{shows_no_key, and_none}
use Rattle.ad_entries.proofs.ListLaws.{or_false}
use Rattle.ad_search.proofs.SeenLaws.{numbers_live}
use Rattle.ad_search.proofs.SubtreeLaws.{and_false, in_filter, in_numbers, RisesAbove, kept_rising, numbers_rise}
use Rattle.ad_search.proofs.SubtreeLaws.{same_rising}
use Rattle.ad_search.proofs.AmongLaws.{Has, only_numbers}

-- ---- the next object that shows a value

not_before : (n : ℕ) (r : Option ℕ) → IsSomeAnd r (λ next. next ≤ n) → IsBefore n r → ⊥
not_before n None some before = some
not_before n (Some next) some before = absurd (omega (arith, some, before))

or_left : (a b : Bool) → a || b ≡ false → a ≡ false
or_left true b e = e
or_left false b e = refl

or_right : (a b : Bool) → a || b ≡ false → b ≡ false
or_right true b e = absurd (both_ways (true || b) e refl)
or_right false b e = e

any_at : {A : Type 0} (p : A → Bool) (xs : List A) (i : ℕ) (x : A) → list_any p xs ≡ false → slice_get xs i ≡ Some x
    → p x ≡ false
any_at p [] i x none is = absurd (none-some x is)
any_at p (y ∷ ys) zero x none is = ap p (sym (same_Some y x is)) ∙ or_left (p y) (list_any p ys) none
any_at p (y ∷ ys) (suc i) x none is = any_at p ys i x (or_right (p y) (list_any p ys) none) is

pub found_at : {A : Type 0} (xs : List A) (i : ℕ) → i < length xs → (x : A) × (slice_get xs i ≡ Some x)
found_at [] i within = absurd (omega (arith, within))
found_at (x ∷ xs) zero within = (x, refl)
found_at (x ∷ xs) (suc i) within = found_at xs i (omega (arith, within))

-- no class names its objects by the attribute
none_named : (schema : List SchemaRecord) (attr class : ℕ) → is_named schema (codes "name") attr ≡ false
    → class < length (classes_of schema) → names_one schema attr ≡ false → is_naming schema class attr ≡ false
none_named schema attr class no_name within none =
    let there = found_at (classes_of schema) class within in
    or_false (is_named schema (codes "name") attr) (naming_of schema class == attr) no_name
    (subst (λ (n : ℕ). (n == attr) ≡ false) (class_naming schema class there.0 there.1)
    (any_at (λ (info : ClassInfo). info.naming.0 == attr) (classes_of schema) class there.0 none there.1))

-- it shows the naming value
named_no_key : (dir : Directory) (number attr : ℕ) (key : Key) (o : Object) → object_at dir.objects number ≡ o
    → IsPlain dir.schema attr → is_naming dir.schema o.class attr ≡ true
    → syntax_at dir.schema attr ≡ syntax.Unicode → same_key (computed syntax.Unicode o.name).key key ≡ false
    → has_key key (shown dir number attr) ≡ false
unfolding shown
named_no_key dir number attr key o is ordinary naming text none =
    let naming_there : is_naming dir.schema (object_at dir.objects number).class attr ≡ true
    = subst (λ (x : Object). is_naming dir.schema x.class attr ≡ true) (sym is) naming in
    let none_text : same_key (computed (syntax_at dir.schema attr) o.name).key key ≡ false
    = subst (λ (kind : Syntax). same_key (computed kind o.name).key key ≡ false) (sym text) none in
    let none_there : same_key (computed (syntax_at dir.schema attr) (object_at dir.objects number).name).key key
    ≡ false =
    subst (λ (x : Object). same_key (computed (syntax_at dir.schema attr) x.name).key key ≡ false) (sym is) none_text in
    rw ordinary.no_class (rw ordinary.no_dn (rw naming_there (rw none_there refl)))

module _ (dir : Directory) (attr : ℕ) (key : Key) (above : ℕ) (standing : AreStanding dir.schema dir.objects) where
  stores_none : (result : Option ℕ) (n : ℕ) → IsNextWith dir.objects attr key above result → is_live dir.objects n
      ≡ true → above < n → IsBefore n result
      → list_any (may_have key) (stored_in (object_at dir.objects n).values attr) ≡ false
  stores_none result n next live more before = elim (cases_Bool (may_store attr key (object_at dir.objects n))) [
    | inl so ↦ absurd (not_before n result
        (next.each n (object_at dir.objects n) (of-live dir.objects n live) so more) before)
    | inr not_so ↦ not_so
  ]

  named_none : (result : Option ℕ) (n : ℕ) → IsNextNamed dir.objects key above result → is_live dir.objects n ≡ true
      → above < n → IsBefore n result
      → same_key (computed syntax.Unicode (object_at dir.objects n).name).key key ≡ false
  named_none result n next live more before
      = elim (cases_Bool (same_key (computed syntax.Unicode (object_at dir.objects n).name).key key)) [
        | inl so ↦ absurd (not_before n result
            (next.each n (object_at dir.objects n) (of-live dir.objects n live) so more) before)
        | inr not_so ↦ not_so
      ]

  -- where no class names its objects so
  pub stored_shown : (result : Option ℕ) (n : ℕ) → IsNextWith dir.objects attr key above result
      → IsPlain dir.schema attr → is_named dir.schema (codes "name") attr ≡ false
      → names_one dir.schema attr ≡ false
      → is_live dir.objects n ≡ true → above < n → IsBefore n result → has_key key (shown dir n attr) ≡ false
  stored_shown result n next ordinary no_name none live more before =
      shows_no_key dir n attr key (object_at dir.objects n) refl ordinary
      (none_named dir.schema attr (object_at dir.objects n).class no_name
      (standing.content n (object_at dir.objects n) (of-live dir.objects n live)).class_of_schema none)
      (stores_none result n next live more before)

  -- where it is `name`
  pub name_shown : (result : Option ℕ) (n : ℕ) → IsNextNamed dir.objects key above result
      → IsPlain dir.schema attr → is_named dir.schema (codes "name") attr ≡ true
      → syntax_at dir.schema attr ≡ syntax.Unicode
      → is_live dir.objects n ≡ true → above < n → IsBefore n result → has_key key (shown dir n attr) ≡ false
  name_shown result n next ordinary is_name text live more before =
      named_no_key dir n attr key (object_at dir.objects n) refl ordinary
      (ap (λ (b : Bool). b || (naming_of dir.schema (object_at dir.objects n).class == attr)) is_name) text
      (named_none result n next live more before)

  -- and where a class names its objects so
  pub named_shown : (stored named : Option ℕ) (n : ℕ) → IsNextWith dir.objects attr key above stored
      → IsNextNamed dir.objects key above named → IsPlain dir.schema attr
      → syntax_at dir.schema attr ≡ syntax.Unicode → is_live dir.objects n ≡ true → above < n → IsBefore n stored
      → IsBefore n named → has_key key (shown dir n attr) ≡ false
  named_shown stored named n next next_named ordinary text live more before before_named
      = elim (cases_Bool (is_naming dir.schema (object_at dir.objects n).class attr)) [
        | inl naming ↦ named_no_key dir n attr key (object_at dir.objects n) refl ordinary naming text
            (named_none named n next_named live more before_named)
        | inr not_naming ↦ shows_no_key dir n attr key (object_at dir.objects n) refl ordinary not_naming
            (stores_none stored n next live more before)
      ]

-- ---- of what is needed

-- An object that doesn't show what the filter needs is never one of which it is true.
pub never_by : (dir : Directory) (f : FilterValue) (plan : IndexPlan) (n : ℕ) → IsNeededBy dir f plan
    → (IsMet dir n plan → ⊥) → IsNever dir f n
never_by dir f plan n needed unmet token = by (is_true (truth (reads dir.schema (seen_of dir token n)) f)) refl
  where
    by : (b : Bool) → is_true (truth (reads dir.schema (seen_of dir token n)) f) ≡ b
        → is_true (truth (reads dir.schema (seen_of dir token n)) f) ≡ false
    by false e = e
    by true e = absurd (unmet (needed token n e))

pub next_for : (dir : Directory) (f : FilterValue) (plan : IndexPlan) (above : ℕ) (result : Option ℕ)
    → IsNeededBy dir f plan → IsNextOf dir (λ (n : ℕ). IsMet dir n plan) above result → IsNextFor dir f above result
next_for dir f plan above result needed next = record {
  is_above = next.is_above;
  none = λ n live more before. never_by dir f plan n needed (next.none n live more before);
}

-- the greater of two numbers
pub greater_parts : (a b n g : ℕ) → g ≡ (if nat_lt a b then b else a) → (P : Type 0) → n < g → (n < a → P)
    → (n < b → P) → P
greater_parts a b n g is P less first second = elim (cases_Bool (nat_lt a b)) [
  | inl so ↦ let e : g ≡ b = rw so at is in second (omega (arith, e, less))
  | inr not_so ↦ let e : g ≡ a = rw not_so at is in first (omega (arith, e, less))
]

pub greater_above : (a b above g : ℕ) → g ≡ (if nat_lt a b then b else a) → above < b → above < g
greater_above a b above g is more = elim (cases_lt a b) [
  | inl less ↦ by (nat_lt a b) refl
  | inr no_less ↦ by (nat_lt a b) refl
]
  where
    by : (t : Bool) → nat_lt a b ≡ t → above < g
    by t e = grind (arith, is, more, e)

-- ---- the objects that are found so far

-- Up to a number, of no other object than these is the filter ever true.
pub record IsUpTo (dir : Directory) (f : FilterValue) (above : ℕ) (left : List ℕ) : Type 0 where
  pub rises : RisesAbove 0 left
  pub within : AllByRecursion (λ (n : ℕ). n ≤ above) left
  pub live : AllByRecursion (λ (n : ℕ). is_live dir.objects n ≡ true) left
  pub none : (m : ℕ) → is_live dir.objects m ≡ true → m ≤ above → is_in m left ≡ false → IsNever dir f m

pub none_yet : (dir : Directory) (f : FilterValue) (left : List ℕ) → Rise dir.objects → left ≡ [] → IsUpTo dir f 0 left
none_yet dir f left rise is = subst (IsUpTo dir f 0) (sym is) (record {
  rises = tt;
  within = tt;
  live = tt;
  none = λ m live le out. let above : 0 < m = live_above 0 dir.objects m rise live in absurd (omega (arith, above, le));
})

push : (P : ℕ → Type 0) (xs : List ℕ) (n : ℕ) → AllByRecursion P xs → P n → AllByRecursion P (xs ++ n ∷ [])
push P [] n all is = (is, tt)
push P (x ∷ xs) n all is = (all.0, push P xs n all.1 is)

raise : (j k : ℕ) (xs : List ℕ) → j < k → AllByRecursion (λ (n : ℕ). n ≤ j) xs → AllByRecursion (λ (n : ℕ). n ≤ k) xs
raise j k [] less all = tt
raise j k (x ∷ xs) less all = (let le : x ≤ j = all.0 in omega (arith, le, less), raise j k xs less all.1)

rises_push : (k above n : ℕ) (xs : List ℕ) → RisesAbove k xs → AllByRecursion (λ (m : ℕ). m ≤ above) xs → k < n
    → above < n → RisesAbove k (xs ++ n ∷ [])
rises_push k above n [] rises within first more = (first, tt)
rises_push k above n (x ∷ xs) rises within first more
    = (
      rises.0,
      rises_push x above n xs rises.1 within.1 (let le : x ≤ above = within.0 in omega (arith, le, more))
          more,
    )

pub one_more : (dir : Directory) (f : FilterValue) (above next : ℕ) (so : Bool) (left after : List ℕ)
    → IsNextFor dir f above (Some next)
    → (so ≡ true → is_live dir.objects next ≡ true)
    → (so ≡ false → is_live dir.objects next ≡ true → IsNever dir f next)
    → after ≡ left ++ place_if so next → IsUpTo dir f above left → IsUpTo dir f next after
one_more dir f above next true left after is live never made so_far = subst (IsUpTo dir f next) (sym made) (record {
  rises = rises_push 0 above next left so_far.rises so_far.within
      (let more : above < next = is.is_above in omega (arith, more)) is.is_above;
  within = push (λ (n : ℕ). n ≤ next) left next (raise above next left is.is_above so_far.within) (omega arith);
  live = push (λ (n : ℕ). is_live dir.objects n ≡ true) left next so_far.live (live refl);
  none = λ m live_m le out.
      let apart : is_in m left || is_in m (next ∷ []) ≡ false
      = sym (list_any-append (λ (n : ℕ). m == n) left (next ∷ [])) ∙ out in
      let not_left : is_in m left ≡ false = or_left (is_in m left) (is_in m (next ∷ [])) apart in
      elim (cases_lt above m) [
        | inl more ↦ elim (cases_lt m next) [
          | inl less ↦ is.none m live_m more less
          | inr no_less ↦
              let same : m ≡ next = omega (arith, le, no_less) in
              absurd (both_ways (is_in m (next ∷ [])) (or_right (is_in m left) (is_in m (next ∷ [])) apart)
              (rw (eq-eqb m next same) refl))
        ]
        | inr no_more ↦ so_far.none m live_m no_more not_left
      ];
})
one_more dir f above next false left after is live never made so_far = subst (IsUpTo dir f next)
    (sym (made ∙ append-nil left)) (record {
      rises = so_far.rises;
      within = raise above next left is.is_above so_far.within;
      live = so_far.live;
      none = λ m live_m le out. elim (cases_lt above m) [
        | inl more ↦ elim (cases_lt m next) [
          | inl less ↦ is.none m live_m more less
          | inr no_less ↦
              let same : next ≡ m = omega (arith, le, no_less) in
              subst (IsNever dir f) same
              (never refl (subst (λ (n : ℕ). is_live dir.objects n ≡ true) (sym same) live_m))
        ]
        | inr no_more ↦ so_far.none m live_m no_more out
      ];
    })

-- ---- at the end

member : (P : ℕ → Type 0) (xs : List ℕ) (n : ℕ) → AllByRecursion P xs → is_in n xs ≡ true → P n
member P [] n all there = absurd (both_ways false refl there)
member P (x ∷ xs) n all there = elim (cases_Bool (nat_eq n x)) [
  | inl here ↦ subst P (sym (eqb-true n x here)) all.0
  | inr other ↦ member P xs n all.1 (sym (ap (λ (b : Bool). b || is_in n xs) other) ∙ there)
]

has_none : (dir : Directory) (token : Token) (search : SearchValue) (base : Dn) (m : ℕ)
    → is_true (truth (reads dir.schema (seen_of dir token m)) search.filter) ≡ false → Has dir token search base m
    ≡ false
unfolding is_found
has_none dir token search base m never = and_none (is_visible dir token m) _ _ never

pub left_of_all : (dir : Directory) (search : SearchValue) (above : ℕ) (left : List ℕ) → Rise dir.objects
    → IsNextFor dir search.filter above None → IsUpTo dir search.filter above left → IsLeftOfAll dir search left
left_of_all dir search above left rise is so_far = record {
  same = λ token base.
      sym (ap (found_among dir token search base) filtered)
      ∙ only_numbers dir token search base test (numbers dir.objects) (every token base) (numbers_live dir.objects);
  live = so_far.live;
}
  where
    test : ℕ → Bool
    test m = is_in m left

    never : (m : ℕ) → is_live dir.objects m ≡ true → is_in m left ≡ false → IsNever dir search.filter m
    never m live out = elim (cases_lt above m) [
      | inl more ↦ is.none m live more tt
      | inr no_more ↦ so_far.none m live no_more out
    ]

    every : (token : Token) (base : Dn) (m : ℕ) → is_live dir.objects m ≡ true → Has dir token search base m ≡ true
        → test m ≡ true
    every token base m live has = elim (cases_Bool (is_in m left)) [
      | inl there ↦ there
      | inr out ↦ absurd (both_ways (Has dir token search base m)
          (has_none dir token search base m (never m live out token)) has)
    ]

    among : (n : ℕ) (b : Bool) → is_in n left ≡ b → (is_live dir.objects n && is_in n left) ≡ is_in n left
    among n true there =
        let live : is_live dir.objects n ≡ true = member (λ (k : ℕ). is_live dir.objects k ≡ true) left n so_far.live
        there in
        ap (λ (b : Bool). b && is_in n left) live
    among n false out = ap (λ (b : Bool). is_live dir.objects n && b) out ∙ and_false (is_live dir.objects n) ∙ sym out

    filtered : filter test (numbers dir.objects) ≡ left
    filtered =
        same_rising 0 0 (filter test (numbers dir.objects)) left
        (kept_rising test 0 (numbers dir.objects) (numbers_rise 0 dir.objects rise)) so_far.rises
        (λ n. in_filter test n (numbers dir.objects) ∙ ap (λ (b : Bool). b && is_in n left) (in_numbers n dir.objects)
        ∙ among n (is_in n left) refl)
