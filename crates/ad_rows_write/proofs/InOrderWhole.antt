-- All rows of a directory stand in order, and the loops that put them so.
use Rattle.std.proofs.Common.{◌≡◌, ◌∙◌, ◌⊎◌, inl, inr, ℕ, zero, suc, ◌+◌, ◌<◌, ◌≤◌, Bool, true, ◌==◌}
use Rattle.std.proofs.Common.{if◌then◌else◌, cond, List, [], ◌∷◌, ◌++◌, length, map, take, get_or, Option, Some, None}
use Rattle.std.proofs.Common.{is_some, refl, sym, ap, subst, arith, append_assoc}
use Rattle.std.specs.Prelude.{slice_get, nat_eq, option_map}
use Rattle.std.proofs.lemmas.Grind.{get_or_default_zero}
use Rattle.std.proofs.lemmas.Option.{slice_get_within, get_or_from_slice_get, slice_get-get_or, none-some, same_Some}
use Rattle.ad_sd.specs.declared.parts.Sd.{Sd}
use Rattle.ad_dir_objects.specs.declared.object.Object.{Object as ObjectIn}
use Rattle.ad_dir_objects.specs.Seen.{object_seen}
use Rattle.std.proofs.lemmas.List.{append-nil, length-take-le, map-append, take_more, take_all}
use Rattle.std.proofs.lemmas.Bool.{ne_eqb, eq-eqb, cases_Bool, cases_lt}
use Rattle.row_store.specs.declared.row.Row.{Row}
use Rattle.row_store.specs.Table.{after_rows, table_of, AreListed}
use Rattle.row_store.proofs.Tables.{after_append}
use Rattle.prop_queue.specs.declared.pending.Pending.{Pending}
use Rattle.ad_schema.specs.declared.line.SchemaRecord.{SchemaRecord}
use Rattle.ad_dir_model.specs.Object.{Object}
use Rattle.ad_dir_model.specs.Objects.{Rise, numbers, object_of, object_at, is_live, sd_at}
use Rattle.ad_dir_model.specs.Directory.{Directory, Meta}
use Rattle.ad_dir_model.proofs.Finding.{at-of}
use Rattle.ad_rows_write.specs.Body.{SpellsObject, SpellsQueue, SpellsMeta, SpellsRecord}
use Rattle.ad_rows_write.specs.Rows.{HasBody, Shows, AreRowsOf}
use Rattle.ad_rows_write.specs.Listing.{Adds, AreAllOf, IsRowAt, AreRowsAt, objects_at, counted}
use Rattle.ad_rows_write.proofs.InOrder.{counted_push, objects_rise, counted_rise, has_some, listed_at, off_kind}
use Rattle.ad_rows_write.proofs.InOrder.{ShowsAfter, at_pairs, object_there, counted_here, IsAfter, after_at}
use Rattle.ad_rows_write.proofs.InOrder.{comes_all, listed_both}

-- ---- the whole

module _ (dir : Directory) (objects records : List Row) (queue meta : Row) where
  abbrev AreObjects : Type 0
  AreObjects = AreRowsAt 1 SpellsObject (objects_at dir.objects (numbers dir.objects)) objects

  abbrev AreRecords : Type 0
  AreRecords = AreRowsAt 4 SpellsRecord (counted 0 dir.schema) records

  abbrev all_rows : List Row
  all_rows = objects ++ (queue ∷ meta ∷ records)

  all_listed : Rise dir.objects → AreObjects → IsRowAt 2 SpellsQueue (0, dir.pending) queue
      → IsRowAt 3 SpellsMeta (0, dir.meta) meta → AreRecords → AreListed all_rows
  all_listed rise are is_queue is_meta are_records =
      let last : AreListed records = listed_at 4 SpellsRecord 0 (counted 0 dir.schema) records
      (counted_rise 0 dir.schema) are_records in
      let behind_meta : IsAfter 3 records = subst (IsAfter 3) (append-nil records)
      (after_at 3 4 SpellsRecord (counted 0 dir.schema) records [] (omega arith) are_records tt) in
      let behind_queue : IsAfter 2 records = subst (IsAfter 2) (append-nil records)
      (after_at 2 4 SpellsRecord (counted 0 dir.schema) records [] (omega arith) are_records tt) in
      let behind_objects : IsAfter 1 records = subst (IsAfter 1) (append-nil records)
      (after_at 1 4 SpellsRecord (counted 0 dir.schema) records [] (omega arith) are_records tt) in
      let meta_kind : meta.kind ≡ 3 = is_meta.0 in
      let queue_kind : queue.kind ≡ 2 = is_queue.0 in
      let from_meta : AreListed (meta ∷ records)
      = (
        has_some (SpellsMeta dir.meta) meta.body is_meta.2,
        comes_all meta records
            (subst (λ (k : ℕ). IsAfter k records) (sym meta_kind) behind_meta),
        last,
      ) in
      let from_queue : AreListed (queue ∷ meta ∷ records) = (
        has_some (SpellsQueue dir.pending) queue.body is_queue.2,
        comes_all queue (meta ∷ records) (
          omega (arith, meta_kind, queue_kind),
          subst (λ (k : ℕ). IsAfter k records)
              (sym queue_kind) behind_queue,
        ),
        from_meta,
      ) in
      listed_both 1 SpellsObject 1 (objects_at dir.objects (numbers dir.objects)) objects (queue ∷ meta ∷ records)
      (objects_rise dir.objects 0 dir.objects rise) are
      (omega (arith, queue_kind), (omega (arith, meta_kind), behind_objects)) from_queue

  after_all : (k n : ℕ) → table_of all_rows k n
      ≡ after_rows records k n (after_rows (meta ∷ []) k n
      (after_rows (queue ∷ []) k n (after_rows objects k n None)))
  after_all k n = after_append objects (queue ∷ meta ∷ records) k n None

  off_row : {A : Type 0} (kind : ℕ) (Spells : A → List ℕ → Type 0) (x : A) (row : Row) (k n : ℕ)
      (before : Option (List ℕ)) → IsRowAt kind Spells (0, x) row → (kind ≡ k → ⊥) → after_rows (row ∷ []) k n before
      ≡ before
  off_row kind Spells x row k n before is other = off_kind kind Spells ((0, x) ∷ []) (row ∷ []) k n before other
      (is, refl)

  stand_for : Rise dir.objects → AreObjects → IsRowAt 2 SpellsQueue (0, dir.pending) queue
      → IsRowAt 3 SpellsMeta (0, dir.meta) meta → AreRecords → AreRowsOf dir (table_of all_rows)
  stand_for rise are is_queue is_meta are_records = record {
    objects = λ n.
        subst (Shows SpellsObject (object_of dir.objects n))
        (sym (after_all 1 n ∙ no_record 1 n _ (λ e. omega (arith, e)) ∙ no_meta 1 n _ (λ e. omega (arith, e))
        ∙ no_queue 1 n _ (λ e. omega (arith, e))))
        (subst (λ (found : Option Object). Shows SpellsObject found (after_rows objects 1 n None))
        (object_there dir.objects n) (at_pairs 1 SpellsObject 1 (objects_at dir.objects (numbers dir.objects))
        objects n None (objects_rise dir.objects 0 dir.objects rise) are));
    queue =
        subst (HasBody (SpellsQueue dir.pending))
        (sym (after_all 2 0 ∙ no_record 2 0 _ (λ e. omega (arith, e)) ∙ no_meta 2 0 _ (λ e. omega (arith, e))))
        (at_pairs 2 SpellsQueue 0 ((0, dir.pending) ∷ []) (queue ∷ []) 0 (after_rows objects 2 0 None)
        (omega arith, tt) (is_queue, refl));
    meta =
        subst (HasBody (SpellsMeta dir.meta)) (sym (after_all 3 0 ∙ no_record 3 0 _ (λ e. omega (arith, e))))
        (at_pairs 3 SpellsMeta 0 ((0, dir.meta) ∷ []) (meta ∷ []) 0
        (after_rows (queue ∷ []) 3 0 (after_rows objects 3 0 None)) (omega arith, tt) (is_meta, refl));
    schema = λ i.
        subst (Shows SpellsRecord (slice_get dir.schema i)) (sym (after_all 4 i))
        (subst (λ (stood : Option (List ℕ)). Shows SpellsRecord (slice_get dir.schema i)
        (after_rows records 4 i stood))
        (sym (no_meta 4 i _ (λ e. omega (arith, e)) ∙ no_queue 4 i _ (λ e. omega (arith, e))
        ∙ no_object 4 i None (λ e. omega (arith, e))))
        (subst (λ (found : Option SchemaRecord). Shows SpellsRecord found (after_rows records 4 i None))
        (counted_here dir.schema i) (at_pairs 4 SpellsRecord 0 (counted 0 dir.schema) records i None
        (counted_rise 0 dir.schema) are_records)));
    no_queue = λ n more.
        after_all 2 n ∙ no_record 2 n _ (λ e. omega (arith, e)) ∙ no_meta 2 n _ (λ e. omega (arith, e))
        ∙ subst (λ (found : Option (List Pending)). ShowsAfter SpellsQueue found (after_rows objects 2 n None)
        (after_rows (queue ∷ []) 2 n (after_rows objects 2 n None)))
        (ap (λ (b : Bool). if b then Some dir.pending else None) (ne_eqb 0 n (λ same. omega (arith, same, more))))
        (at_pairs 2 SpellsQueue 0 ((0, dir.pending) ∷ []) (queue ∷ []) n (after_rows objects 2 n None)
        (omega arith, tt) (is_queue, refl))
        ∙ no_object 2 n None (λ e. omega (arith, e));
    no_meta = λ n more.
        after_all 3 n ∙ no_record 3 n _ (λ e. omega (arith, e))
        ∙ subst (λ (found : Option Meta). ShowsAfter SpellsMeta found
        (after_rows (queue ∷ []) 3 n (after_rows objects 3 n None))
        (after_rows (meta ∷ []) 3 n (after_rows (queue ∷ []) 3 n (after_rows objects 3 n None))))
        (ap (λ (b : Bool). if b then Some dir.meta else None) (ne_eqb 0 n (λ same. omega (arith, same, more))))
        (at_pairs 3 SpellsMeta 0 ((0, dir.meta) ∷ []) (meta ∷ []) n
        (after_rows (queue ∷ []) 3 n (after_rows objects 3 n None)) (omega arith, tt) (is_meta, refl))
        ∙ no_queue 3 n _ (λ e. omega (arith, e)) ∙ no_object 3 n None (λ e. omega (arith, e));
    no_kind = λ k n out.
        after_all k n ∙ no_record k n _ (λ e. far k 4 out e (omega arith) (omega arith))
        ∙ no_meta k n _ (λ e. far k 3 out e (omega arith) (omega arith))
        ∙ no_queue k n _ (λ e. far k 2 out e (omega arith) (omega arith))
        ∙ no_object k n None (λ e. far k 1 out e (omega arith) (omega arith));
  }
    where
      no_object : (k n : ℕ) (before : Option (List ℕ)) → (1 ≡ k → ⊥) → after_rows objects k n before ≡ before
      no_object k n before other = off_kind 1 SpellsObject (objects_at dir.objects (numbers dir.objects)) objects k n
          before other are

      no_queue : (k n : ℕ) (before : Option (List ℕ)) → (2 ≡ k → ⊥) → after_rows (queue ∷ []) k n before ≡ before
      no_queue k n before other = off_row 2 SpellsQueue dir.pending queue k n before is_queue other

      no_meta : (k n : ℕ) (before : Option (List ℕ)) → (3 ≡ k → ⊥) → after_rows (meta ∷ []) k n before ≡ before
      no_meta k n before other = off_row 3 SpellsMeta dir.meta meta k n before is_meta other

      no_record : (k n : ℕ) (before : Option (List ℕ)) → (4 ≡ k → ⊥) → after_rows records k n before ≡ before
      no_record k n before other = off_kind 4 SpellsRecord (counted 0 dir.schema) records k n before other are_records

      far : (k kind : ℕ) → (k ≡ 0) ⊎ (4 < k) → kind ≡ k → 0 < kind → kind < 5 → ⊥
      far k kind (inl none) same some few = omega (arith, none, same, some)
      far k kind (inr more) same some few = omega (arith, more, same, few)

-- what was put kind after kind
in_order : (objects records : List Row) (queue meta : Row) (b c rows : List Row) → b ≡ objects ++ queue ∷ [] → c ≡ b
    ++ meta ∷ [] → rows ≡ c ++ records → rows ≡ objects ++ (queue ∷ meta ∷ records)
in_order objects records queue meta b c rows is_b is_c is =
    let c_is : c ≡ objects ++ (queue ∷ meta ∷ []) = is_c ∙ ap (λ (l : List Row). l ++ meta ∷ []) is_b
    ∙ append_assoc objects (queue ∷ []) (meta ∷ []) in
    is ∙ ap (λ (l : List Row). l ++ records) c_is ∙ append_assoc objects (queue ∷ meta ∷ []) records

-- all of them represent the directory
pub whole_stands : (dir : Directory) (queue meta : Row) (objects b c rows : List Row) → Rise dir.objects
    → AreRowsAt 1 SpellsObject (objects_at dir.objects (numbers dir.objects)) objects
    → IsRowAt 2 SpellsQueue (0, dir.pending) queue
    → b ≡ objects ++ queue ∷ [] → IsRowAt 3 SpellsMeta (0, dir.meta) meta → c ≡ b ++ meta ∷ []
    → Adds (AreRowsAt 4 SpellsRecord (counted 0 dir.schema)) c rows → AreAllOf dir rows
whole_stands dir queue meta objects b c rows rise are is_queue is_b is_meta is_c last =
    subst (AreAllOf dir) (sym (in_order objects last.0 queue meta b c rows is_b is_c last.2)) (
      stand_for dir objects last.0 queue meta rise are is_queue is_meta last.1,
      all_listed dir objects last.0 queue meta rise are is_queue is_meta last.1,
    )

-- ---- the loops

-- what stands among the numbers is live
pub live_in : (os : List Object) (i x : ℕ) → i < length (numbers os) → x ≡ get_or (numbers os) i x → is_live os x ≡ true
unfolding numbers object_of
live_in [] i x less is = absurd (omega (arith, less))
live_in (o ∷ os) zero x less is = subst (λ (m : ℕ). is_some (cond (o.number == m) (Some o) (object_of os m)) ≡ true)
    (sym is) (ap (λ (b : Bool). is_some (cond b (Some o) (object_of os o.number))) (eq-eqb o.number o.number refl))
live_in (o ∷ os) (suc i) x less is = elim (cases_Bool (nat_eq o.number x)) [
  | inl here ↦ rw here refl
  | inr other ↦ rw other (live_in os i x (omega (arith, less)) is)
]

pub live_at_place : (objects : List Object) (ns : List ℕ) (i : ℕ) → ns ≡ numbers objects → i < length ns
    → is_live objects (get_or ns i 0) ≡ true
live_at_place objects ns i same less =
    subst (λ (l : List ℕ). i < length l → is_live objects (get_or l i 0) ≡ true) (sym same)
    (λ within. live_in objects i (get_or (numbers objects) i 0) within
    (sym (get_or_default_zero (numbers objects) i (get_or (numbers objects) i 0) within))) less

pub itself : (ns : List ℕ) (i : ℕ) → i < length ns → get_or ns i 0 ≡ get_or ns i (get_or ns i 0)
itself ns i less = sym (get_or_default_zero ns i (get_or ns i 0) less)

pub objects_longer : (objects : List Object) (ns : List ℕ) (i x : ℕ) → i < length ns → x ≡ get_or ns i x
    → objects_at objects (take i ns) ++ (x, object_at objects x) ∷ [] ≡ objects_at objects (take (i + 1) ns)
objects_longer objects ns i x less is =
    let pair : ℕ → ℕ × Object = λ n. (n, object_at objects n) in
    sym (map-append pair (take i ns) (x ∷ []))
    ∙ ap (map pair) (ap (λ (y : ℕ). take i ns ++ y ∷ []) is ∙ sym (take_more ns i x less))

pub counted_longer : {A : Type 0} (xs : List A) (i : ℕ) (x : A) → i < length xs → x ≡ get_or xs i x
    → counted 0 (take i xs) ++ (i, x) ∷ [] ≡ counted 0 (take (i + 1) xs)
counted_longer xs i x less is =
    let taken : length (take i xs) ≡ i = length-take-le i xs (omega (arith, less)) in
    let place : 0 + length (take i xs) ≡ i = omega (arith, taken) in
    ap (λ (n : ℕ). counted 0 (take i xs) ++ (n, x) ∷ []) (sym place) ∙ counted_push 0 (take i xs) x
    ∙ ap (counted 0) (ap (λ (y : _). take i xs ++ y ∷ []) is ∙ sym (take_more xs i x less))

pub taken_more : {A : Type 0} (xs : List A) (i : ℕ) (x : A) (old new : List A) → slice_get xs i ≡ Some x → old
    ≡ take i xs → new ≡ old ++ x ∷ [] → (i + 1 ≤ length xs) × (new ≡ take (i + 1) xs)
taken_more xs i x old new is so_far put =
    let less : i < length xs = slice_get_within xs i x is in (
      omega (arith, less),
      put ∙ ap (λ (l : List _). l ++ x ∷ []) so_far ∙ ap (λ (y : _). take i xs ++ y ∷ [])
          (sym (get_or_from_slice_get xs i x x is)) ∙ sym (take_more xs i x less),
    )

pub all_taken : {A : Type 0} (xs : List A) (i : ℕ) (old : List A) → slice_get xs i ≡ None → old ≡ take i xs → old ≡ xs
all_taken [] i old none so_far = so_far ∙ take_all i [] (omega arith)
all_taken (x ∷ xs) i old none so_far =
    elim (cases_lt i (length (x ∷ xs))) [
      | inl less ↦ absurd (let found : slice_get (x ∷ xs) i ≡ Some (get_or (x ∷ xs) i x) = slice_get-get_or (x ∷ xs) i
          x less in none-some (get_or (x ∷ xs) i x) (sym none ∙ found))
      | inr past ↦ so_far ∙ take_all i (x ∷ xs) past
    ]

-- an object that was found, with the descriptor that was found
pub described : (objects : List Object) (n : ℕ) (o : ObjectIn) (sd : Sd) (body : List ℕ) → object_of objects n
    ≡ Some (object_seen o (sd_at objects n)) → Some sd ≡ option_map (λ (x : Object). x.sd) (object_of objects n)
    → SpellsObject (object_seen o sd) body
    → SpellsObject (object_at objects n) body
described objects n o sd body found own spelled =
    let sd_is : sd ≡ sd_at objects n = same_Some sd (sd_at objects n)
    (own ∙ ap (option_map (λ (x : Object). x.sd)) found) in
    let at : object_at objects n ≡ object_seen o (sd_at objects n) = at-of objects n (object_seen o (sd_at objects n))
    found in
    subst (λ (x : Object). SpellsObject x body) (ap (object_seen o) sd_is ∙ sym at) spelled
