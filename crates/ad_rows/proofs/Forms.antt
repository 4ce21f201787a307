-- What one row more does to what was taken in, and that it is taken in exactly where it is of its form.
use Rattle.std.proofs.Common.{◌≡◌, ◌∙◌, ℕ, suc, ◌<◌, ◌-◌, ◌^◌, Bool, true, false, List, [], ◌∷◌, ◌++◌, map, Option}
use Rattle.std.proofs.Common.{Some, None, Result, Ok, Err, refl, sym, ap, subst, arith, if◌then◌else◌}
use Rattle.std.specs.Prelude.{◌==◌, ◌&&◌, nat_lt, nat_le}
use Rattle.std.specs.List.{AllByRecursion}
use Rattle.std.proofs.lemmas.Bool.{and_parts, eqb-true, lt-ltb, ltb-true}
use Rattle.std.proofs.lemmas.List.{length-map}
use Rattle.ad_bytes.specs.Reading.{IsBytes, ◌>>=◌, need, fault_as, SpellsEach}
use Rattle.ad_bytes.specs.Numbers.{SpellsBe}
use Rattle.ad_bytes.proofs.Steps.{from_bind, from_need, from_ok, from_fault_as}
use Rattle.ad_schema.specs.declared.line.SchemaRecord.{SchemaRecord}
use Rattle.prop_queue.specs.declared.pending.Pending.{Pending}
use Rattle.row_store.specs.declared.row.Row.{Row}
use Rattle.row_store.specs.Table.{Table}
use Rattle.ad_dir_model.specs.Object.{Stored, plain, link, Held, Object}
use Rattle.ad_dir_model.specs.Directory.{Meta}
use Rattle.ad_rows.specs.declared.parsing.BodyFault.{BodyFault}
use Rattle.ad_rows.specs.declared.parsing.BodyFault.TheVariants as body
use Rattle.ad_rows.specs.declared.fault.RowFault.{RowFault}
use Rattle.ad_rows.specs.declared.fault.RowFault.TheVariants as fault
use Rattle.ad_rows_write.specs.Body.{SpellsText, SpellsList, SpellsStored, SpellsHeld, SpellsObject, SpellsQueue}
use Rattle.ad_rows_write.specs.Body.{SpellsMeta, SpellsRecord}
use Rattle.ad_rows.specs.Form.{CountsAsLink, IsOfKind, IsHeldForm, IsObjectBody, IsForm, object_form, queue_form}
use Rattle.ad_rows.specs.Form.{meta_form, record_form}
use Rattle.ad_rows.specs.Parsing.{attrs_rise, object_in, queue_in, meta_in, record_in}
use Rattle.ad_rows.specs.Taking.{Parts, bad_row, fault_of, stands_as, body_of, number_of, with_object, with_pending}
use Rattle.ad_rows.specs.Taking.{with_meta, with_record, with_any}
use Rattle.ad_rows.proofs.Codec.{is_link_in, plain_of, plain_shown, IsStoredValue, IsKeptHeld, IsReadAs, object_takes}
use Rattle.ad_rows.proofs.Codec.{object_again}
use Rattle.ad_rows.proofs.Growing.{rises}
use Rattle.ad_rows.proofs.Reread.{all_as, rise_is, queue_takes, queue_read, meta_takes, meta_read, record_takes}
use Rattle.ad_rows.proofs.Reread.{record_read}
use Rattle.ad_rows.proofs.Schemas.{Knows}
use Rattle.ad_rows.proofs.Sweep.{row_with}

-- ---- the body of an object's row

-- a value with the bytes that it shows, as it is read
abbrev kept_stored : Option (List SchemaRecord) → ℕ → Stored → Stored
kept_stored schema attr (plain value) = plain (plain_of schema attr value.shown)
kept_stored schema attr (link number) = link number

abbrev kept_held : Option (List SchemaRecord) → Held → Held
kept_held schema held = record { attr = held.attr; values = map (kept_stored schema held.attr) held.values }

not_true : (b : Bool) → (b ≡ true → ⊥) → b ≡ false
not_true true never = absurd (never refl)
not_true false never = refl

each_map : {A B : Type 0} (f : A → B) (Spells : A → List ℕ → Type 0) (Kept : B → List ℕ → Type 0)
    → ((x : A) (t : List ℕ) → Spells x t → Kept (f x) t) → (xs : List A) (text : List ℕ) → SpellsEach Spells xs text
    → SpellsEach Kept (map f xs) text
each_map f Spells Kept so [] text s = s
each_map f Spells Kept so (x ∷ xs) text s = record {
  front = s.front;
  behind = s.behind;
  parts = s.parts;
  spelled
      = so x s.front s.spelled;
  follows = each_map f Spells Kept so xs s.behind s.follows;
}

list_map : {A B : Type 0} (f : A → B) (Spells : A → List ℕ → Type 0) (Kept : B → List ℕ → Type 0)
    → ((x : A) (t : List ℕ) → Spells x t → Kept (f x) t) → (xs : List A) (text : List ℕ) → SpellsList Spells xs text
    → SpellsList Kept (map f xs) text
list_map f Spells Kept so xs text s = record {
  front = s.front;
  behind = s.behind;
  parts = s.parts;
  spelled = subst (λ (n : ℕ). SpellsBe 8 n s.front) (sym (length-map xs f)) s.spelled;
  follows = each_map f Spells Kept so xs s.behind s.follows;
}

all_map : {A B : Type 0} (f : A → B) (P : A → Type 0) (Q : B → Type 0) → ((x : A) → P x → Q (f x)) → (xs : List A)
    → AllByRecursion P xs → AllByRecursion Q (map f xs)
all_map f P Q so [] all = tt
all_map f P Q so (x ∷ xs) all = (so x all.0, all_map f P Q so xs all.1)

module _ (table : Table) (schema : Option (List SchemaRecord)) (knows : Knows table schema) where
  -- ---- a body that was read is of the form

  stored_form : (attr : ℕ) (stored : Stored) → IsStoredValue schema attr stored → IsOfKind (CountsAsLink table attr) stored
  stored_form attr (plain value) kept = λ counts.
      absurd (let clash : true ≡ false = sym (knows.back attr counts) ∙ kept.0 in cc clash)
  stored_form attr (link number) kept = knows.links attr kept

  held_form : (held : Held) → IsKeptHeld schema held → IsHeldForm (CountsAsLink table) held
  held_form held kept = record {
    some = kept.some;
    each = all_as (IsStoredValue schema held.attr)
        (IsOfKind (CountsAsLink table held.attr)) (stored_form held.attr) held.values kept.each;
  }

  pub body_form : (number : ℕ) (o : Object) (body : List ℕ) → IsReadAs schema number o body
      → IsObjectBody (CountsAsLink table) body
  body_form number o body is = record {
    object = o;
    spelled = is.spelled;
    rise = rises 0 o.values is.rise;
    each
        = all_as (IsKeptHeld schema) (IsHeldForm (CountsAsLink table)) held_form o.values is.each;
  }

  -- ---- a body of the form is read

  stored_kept : (attr : ℕ) (stored : Stored) → IsOfKind (CountsAsLink table attr) stored
      → IsStoredValue schema attr (kept_stored schema attr stored)
  stored_kept attr (plain value) form = (
    not_true (is_link_in schema attr) (λ is. form (knows.links attr is)),
    ap
        (plain_of schema attr) (sym (plain_shown schema attr value.shown)),
  )
  stored_kept attr (link number) form = knows.back attr form

  stored_spelled : (attr : ℕ) (stored : Stored) (text : List ℕ) → SpellsStored stored text
      → SpellsStored (kept_stored schema attr stored) text
  stored_spelled attr (plain value) text s = subst (λ (bytes : List ℕ). SpellsText bytes text)
      (sym (plain_shown schema attr value.shown)) s
  stored_spelled attr (link number) text s = s

  held_kept : (held : Held) → IsHeldForm (CountsAsLink table) held → IsKeptHeld schema (kept_held schema held)
  held_kept held form = record {
    some = subst (λ (n : ℕ). 0 < n) (sym (length-map held.values (kept_stored schema held.attr))) form.some;
    each = all_map (kept_stored schema held.attr) (IsOfKind (CountsAsLink table held.attr)) (IsStoredValue schema held.attr)
        (stored_kept held.attr) held.values form.each;
  }

  held_spelled : (held : Held) (text : List ℕ) → SpellsHeld held text → SpellsHeld (kept_held schema held) text
  held_spelled held text s = record {
    front = s.front;
    behind = s.behind;
    parts = s.parts;
    spelled = s.spelled;
    follows = list_map (kept_stored schema held.attr) SpellsStored SpellsStored (stored_spelled held.attr) held.values
        s.behind s.follows;
  }

  rise_kept : (least : ℕ) (values : List Held) → attrs_rise least (map (kept_held schema) values)
      ≡ attrs_rise least values
  unfolding attrs_rise
  rise_kept least [] = refl
  rise_kept least (held ∷ values) = ap (λ (b : Bool). nat_le least held.attr && b) (rise_kept (suc held.attr) values)

  pub form_read : (number : ℕ) (body : List ℕ) → IsObjectBody (CountsAsLink table) body → (o : Object)
      × IsReadAs schema number o body
  form_read number body form =
      let o = form.object in
      let s = form.spelled in
      let c = s.follows in
      let n = c.follows in
      let v = n.follows in
      let values = map (kept_held schema) o.values in
      let kept : Object = record {
        number = number;
        parent = o.parent;
        class = o.class;
        name = o.name;
        values
            = values;
        sd = o.sd;
      } in
      let spelled : SpellsObject kept body = record {
        front = s.front;
        behind = s.behind;
        parts = s.parts;
        spelled = s.spelled;
        follows = record {
          front = c.front;
          behind = c.behind;
          parts = c.parts;
          spelled = c.spelled;
          follows = record {
            front = n.front;
            behind = n.behind;
            parts = n.parts;
            spelled = n.spelled;
            follows = record {
              front = v.front;
              behind = v.behind;
              parts = v.parts;
              spelled
                  = list_map (kept_held schema) SpellsHeld SpellsHeld held_spelled o.values v.front v.spelled;
              follows
                  = v.follows;
            };
          };
        };
      } in (
        kept,
        record {
          number_is = refl;
          spelled = spelled;
          rise = rise_kept 0 o.values ∙ rise_is 0 o.values form.rise;
          each = all_map (kept_held schema) (IsHeldForm (CountsAsLink table)) (IsKeptHeld schema) held_kept o.values
              form.each;
        },
      )

-- ---- a row that was taken in

-- what it was, and what there is then
pub data Takes (schema : Option (List SchemaRecord)) (parts : Parts) (r : Row) (bytes : List ℕ) (more : Parts) : Type
    0 where
  takes_object : r.kind ≡ 1 → parts.last < r.number → r.number < 2 ^ 32 - 1 → (o : Object) → IsReadAs schema r.number
      o bytes
      → more ≡ record {
        objects = parts.objects ++ o ∷ [];
        last = r.number;
        pending = parts.pending;
        meta
            = parts.meta;
      } → Takes schema parts r bytes more
  takes_queue : r.kind ≡ 2 → r.number ≡ 0 → (pending : List Pending) → SpellsQueue pending bytes
      → more ≡ record { objects = parts.objects; last = parts.last; pending = Some pending; meta = parts.meta }
      → Takes schema parts r bytes more
  takes_meta : r.kind ≡ 3 → r.number ≡ 0 → (meta : Meta) → SpellsMeta meta bytes
      → more ≡ record { objects = parts.objects; last = parts.last; pending = parts.pending; meta = Some meta }
      → Takes schema parts r bytes more
  takes_record : r.kind ≡ 4 → r.number < 2 ^ 32 - 1 → (read : SchemaRecord) → SpellsRecord read bytes → more ≡ parts
      → Takes schema parts r bytes more

module _ (schema : Option (List SchemaRecord)) (parts : Parts) (r : Row) (bytes : List ℕ)
    (stands : r.body ≡ Some bytes) (are : IsBytes bytes) where
  body_is : (got : List ℕ) → body_of r ≡ Ok got → got ≡ bytes
  body_is got e = sym (from_ok {E = RowFault} bytes got (sym (ap (stands_as r) stands) ∙ e))

  number_is : (last n : ℕ) → number_of r last ≡ Ok n → (last < r.number) × (r.number < 2 ^ 32 - 1) × (r.number ≡ n)
  number_is last n e = by (nat_lt last r.number && nat_lt r.number (2 ^ 32 - 1)) refl
    where
      given : Bool → Result ℕ RowFault
      given b = if b then Ok r.number else Err (bad_row r)

      by : (b : Bool) → (nat_lt last r.number && nat_lt r.number (2 ^ 32 - 1)) ≡ b → (last < r.number)
          × (r.number < 2 ^ 32 - 1) × (r.number ≡ n)
      by true is =
          let two = and_parts (nat_lt last r.number) (nat_lt r.number (2 ^ 32 - 1)) is in (
            ltb-true last r.number two.0,
            ltb-true r.number (2 ^ 32 - 1) two.1,
            from_ok {E = RowFault} r.number n
                (sym (ap given is) ∙ e),
          )
      by false is = absurd (let clash : Err (bad_row r) ≡ Ok n = sym (ap given is) ∙ e in cc clash)

  object_is : (more : Parts) → r.kind ≡ 1 → with_object schema parts r ≡ Ok more → Takes schema parts r bytes more
  unfolding with_object
  object_is more kind e =
      from_bind (number_of r parts.last) _ more e (λ (number : ℕ) e1 f1.
      from_bind (body_of r) _ more f1 (λ (got : List ℕ) e2 f2.
      from_bind (fault_as (fault_of r) (object_in schema number got)) _ more f2 (λ (o : Object) e3 f3.
      let n = number_is parts.last number e1 in
      let read : object_in schema r.number bytes ≡ Ok o = (λ i. object_in schema (n.2 i) (sym (body_is got e2) i))
      ∙ from_fault_as (fault_of r) (object_in schema number got) o e3 in
      let made : Parts = record {
        objects = parts.objects ++ o ∷ [];
        last = number;
        pending = parts.pending;
        meta
            = parts.meta;
      } in
      takes_object kind n.0 n.1 o (object_takes schema r.number bytes o are read)
      (sym (from_ok {E = RowFault} made more f3)
      ∙ (λ i. record {
        objects = parts.objects ++ o ∷ [];
        last = sym n.2 i;
        pending = parts.pending;
        meta
            = parts.meta;
      })))))

  queue_is : (more : Parts) → r.kind ≡ 2 → r.number ≡ 0 → with_pending parts r ≡ Ok more → Takes schema parts r bytes
      more
  unfolding with_pending
  queue_is more kind number e =
      from_bind (body_of r) _ more e (λ (got : List ℕ) e1 f1.
      from_bind (fault_as (fault_of r) (queue_in got)) _ more f1 (λ (pending : List Pending) e2 f2.
      let read : queue_in bytes ≡ Ok pending = ap queue_in (sym (body_is got e1)) ∙ from_fault_as (fault_of r)
      (queue_in got) pending e2 in
      takes_queue kind number pending (queue_takes bytes pending are read)
      (sym (from_ok {E = RowFault} (record {
        objects = parts.objects;
        last = parts.last;
        pending = Some pending;
        meta
            = parts.meta;
      }) more f2))))

  meta_is : (more : Parts) → r.kind ≡ 3 → r.number ≡ 0 → with_meta parts r ≡ Ok more → Takes schema parts r bytes more
  unfolding with_meta
  meta_is more kind number e =
      from_bind (body_of r) _ more e (λ (got : List ℕ) e1 f1.
      from_bind (fault_as (fault_of r) (meta_in got)) _ more f1 (λ (meta : Meta) e2 f2.
      let read : meta_in bytes ≡ Ok meta = ap meta_in (sym (body_is got e1)) ∙ from_fault_as (fault_of r)
      (meta_in got) meta e2 in
      takes_meta kind number meta (meta_takes bytes meta are read)
      (sym (from_ok {E = RowFault} (record {
        objects = parts.objects;
        last = parts.last;
        pending = parts.pending;
        meta
            = Some meta;
      }) more f2))))

  record_is : (more : Parts) → r.kind ≡ 4 → with_record parts r ≡ Ok more → Takes schema parts r bytes more
  unfolding with_record
  record_is more kind e =
      from_need (nat_lt r.number (2 ^ 32 - 1)) (bad_row r) _ more e (λ small f0.
      from_bind (body_of r) _ more f0 (λ (got : List ℕ) e1 f1.
      from_bind (fault_as (fault_of r) (record_in got)) _ more f1 (λ (one : SchemaRecord) e2 f2.
      let read : record_in bytes ≡ Ok one = ap record_in (sym (body_is got e1)) ∙ from_fault_as (fault_of r)
      (record_in got) one e2 in
      takes_record kind (ltb-true r.number (2 ^ 32 - 1) small) one (record_takes bytes one are read)
      (sym (from_ok {E = RowFault} parts more f2)))))

  pub any_takes : (more : Parts) → with_any schema parts r ≡ Ok more → Takes schema parts r bytes more
  unfolding with_any
  any_takes more e = first (r.kind == 1) refl
    where
      fourth_of : Bool → Result Parts RowFault
      fourth_of b = if b then with_record parts r else Err (bad_row r)

      third_of : Bool → Result Parts RowFault
      third_of b = if b then with_meta parts r else fourth_of (r.kind == 4)

      second_of : Bool → Result Parts RowFault
      second_of b = if b then with_pending parts r else third_of (r.kind == 3 && r.number == 0)

      first_of' : Bool → Result Parts RowFault
      first_of' b = if b then with_object schema parts r else second_of (r.kind == 2 && r.number == 0)

      fourth : (b : Bool) → (r.kind == 4) ≡ b → fourth_of (r.kind == 4) ≡ Ok more → Takes schema parts r bytes more
      fourth true is e4 = record_is more (eqb-true r.kind 4 is) (sym (ap fourth_of is) ∙ e4)
      fourth false is e4 = absurd (let clash : Err (bad_row r) ≡ Ok more = sym (ap fourth_of is) ∙ e4 in cc clash)

      third : (b : Bool) → (r.kind == 3 && r.number == 0) ≡ b → third_of (r.kind == 3 && r.number == 0) ≡ Ok more
          → Takes schema parts r bytes more
      third true is e3 = let two = and_parts (r.kind == 3) (r.number == 0) is
          in meta_is more (eqb-true r.kind 3 two.0) (eqb-true r.number 0 two.1) (sym (ap third_of is) ∙ e3)
      third false is e3 = fourth (r.kind == 4) refl (sym (ap third_of is) ∙ e3)

      second : (b : Bool) → (r.kind == 2 && r.number == 0) ≡ b → second_of (r.kind == 2 && r.number == 0) ≡ Ok more
          → Takes schema parts r bytes more
      second true is e2 = let two = and_parts (r.kind == 2) (r.number == 0) is
          in queue_is more (eqb-true r.kind 2 two.0) (eqb-true r.number 0 two.1) (sym (ap second_of is) ∙ e2)
      second false is e2 = third (r.kind == 3 && r.number == 0) refl (sym (ap second_of is) ∙ e2)

      first : (b : Bool) → (r.kind == 1) ≡ b → Takes schema parts r bytes more
      first true is = object_is more (eqb-true r.kind 1 is) (sym (ap first_of' is) ∙ e)
      first false is = second (r.kind == 2 && r.number == 0) refl (sym (ap first_of' is) ∙ e)

-- ---- a row is taken in exactly where it is of its form

pub takes_form : (table : Table) (schema : Option (List SchemaRecord)) → Knows table schema
    → (parts more : Parts) (r : Row) (bytes : List ℕ) → Takes schema parts r bytes more → IsForm table r.kind r.number
    bytes
takes_form table schema knows parts more r bytes (takes_object kind above below o is same)
    = object_form kind (omega (arith, above)) below (body_form table schema knows r.number o bytes is)
takes_form table schema knows parts more r bytes (takes_queue kind number pending s same)
    = queue_form kind number pending s
takes_form table schema knows parts more r bytes (takes_meta kind number meta s same) = meta_form kind number meta s
takes_form table schema knows parts more r bytes (takes_record kind below read s same) = record_form kind below read s

object_given : (schema : Option (List SchemaRecord)) (parts : Parts) (n : ℕ) (bytes : List ℕ) (o : Object)
    → parts.last < n → n < 2 ^ 32 - 1 → object_in schema n bytes ≡ Ok o
    → with_any schema parts (row_with 1 n bytes)
    ≡ Ok (record { objects = parts.objects ++ o ∷ []; last = n; pending = parts.pending; meta = parts.meta })
unfolding with_any with_object
object_given schema parts n bytes o above below read
    = rw (lt-ltb parts.last n above, lt-ltb n (2 ^ 32 - 1) below, read) refl

queue_given : (schema : Option (List SchemaRecord)) (parts : Parts) (bytes : List ℕ) (pending : List Pending)
    → queue_in bytes ≡ Ok pending
    → with_any schema parts (row_with 2 0 bytes)
    ≡ Ok (record { objects = parts.objects; last = parts.last; pending = Some pending; meta = parts.meta })
unfolding with_any with_pending
queue_given schema parts bytes pending read = rw read refl

meta_given : (schema : Option (List SchemaRecord)) (parts : Parts) (bytes : List ℕ) (meta : Meta) → meta_in bytes
    ≡ Ok meta
    → with_any schema parts (row_with 3 0 bytes)
    ≡ Ok (record { objects = parts.objects; last = parts.last; pending = parts.pending; meta = Some meta })
unfolding with_any with_meta
meta_given schema parts bytes meta read = rw read refl

record_given : (schema : Option (List SchemaRecord)) (parts : Parts) (n : ℕ) (bytes : List ℕ) (one : SchemaRecord) → n
    < 2 ^ 32 - 1 → record_in bytes ≡ Ok one → with_any schema parts (row_with 4 n bytes) ≡ Ok parts
unfolding with_any with_record
record_given schema parts n bytes one below read = rw (lt-ltb n (2 ^ 32 - 1) below, read) refl

pub form_given : (table : Table) (schema : Option (List SchemaRecord)) → Knows table schema
    → (parts : Parts) (r : Row) (bytes : List ℕ) → r.body ≡ Some bytes
    → (r.kind ≡ 1 → 0 < r.number → parts.last < r.number)
    → IsForm table r.kind r.number bytes → (more : Parts) × (with_any schema parts r ≡ Ok more)
form_given table schema knows parts r bytes stands last (object_form kind some below form) =
    let o = form_read table schema knows r.number bytes form in
    let same : r ≡ row_with 1 r.number bytes = (λ i. record { kind = kind i; number = r.number; body = stands i }) in (
      _,
      ap (with_any schema parts) same ∙ object_given schema parts r.number bytes o.0 (last kind some) below
          (object_again schema r.number o.0 bytes o.1),
    )
form_given table schema knows parts r bytes stands last (queue_form kind number pending s) =
    let same : r ≡ row_with 2 0 bytes = (λ i. record { kind = kind i; number = number i; body = stands i }) in
    (_, ap (with_any schema parts) same ∙ queue_given schema parts bytes pending (queue_read pending bytes s))
form_given table schema knows parts r bytes stands last (meta_form kind number meta s) =
    let same : r ≡ row_with 3 0 bytes = (λ i. record { kind = kind i; number = number i; body = stands i }) in
    (_, ap (with_any schema parts) same ∙ meta_given schema parts bytes meta (meta_read meta bytes s))
form_given table schema knows parts r bytes stands last (record_form kind below one s) =
    let same : r ≡ row_with 4 r.number bytes = (λ i. record { kind = kind i; number = r.number; body = stands i }) in
    (_, ap (with_any schema parts) same ∙ record_given schema parts r.number bytes one below (record_read one bytes s))

-- ---- the place of a fault

abbrev pub IsPlacedAt : {A : Type 0} → Row → Result A RowFault → Type 0
IsPlacedAt r (Ok x) = Unit {0}
IsPlacedAt r (Err (fault.Row kind number)) = (kind ≡ r.kind) × (number ≡ r.number)
IsPlacedAt r (Err fault.Memory) = Unit {0}

placed_bind : {A B : Type 0} (r : Row) (m : Result A RowFault) (f : A → Result B RowFault) → IsPlacedAt r m
    → ((x : A) → IsPlacedAt r (f x)) → IsPlacedAt r (m >>= f)
placed_bind r (Ok x) f first others = others x
placed_bind r (Err (fault.Row kind number)) f first others = first
placed_bind r (Err fault.Memory) f first others = tt

placed_if : {A : Type 0} (r : Row) (b : Bool) (x y : Result A RowFault) → IsPlacedAt r x → IsPlacedAt r y
    → IsPlacedAt r (if b then x else y)
placed_if r true x y px py = px
placed_if r false x y px py = py

placed_as : {A : Type 0} (r : Row) (m : Result A BodyFault) → IsPlacedAt r (fault_as (fault_of r) m)
placed_as r (Ok x) = tt
placed_as r (Err body.Bad) = (refl, refl)
placed_as r (Err body.Memory) = tt

placed_need : (r : Row) (b : Bool) → IsPlacedAt r (need b (bad_row r))
placed_need r true = tt
placed_need r false = (refl, refl)

placed_stands : (r : Row) (stands : Option (List ℕ)) → IsPlacedAt r (stands_as r stands)
placed_stands r None = (refl, refl)
placed_stands r (Some bytes) = tt

pub any_placed : (schema : Option (List SchemaRecord)) (parts : Parts) (r : Row)
    → IsPlacedAt r (with_any schema parts r)
unfolding with_any with_object with_pending with_meta with_record
any_placed schema parts r =
    placed_if r (r.kind == 1) _ _
    (placed_bind r (number_of r parts.last) _
    (placed_if r (nat_lt parts.last r.number && nat_lt r.number (2 ^ 32 - 1)) _ _ tt (refl, refl)) (λ number.
    placed_bind r (body_of r) _ (placed_stands r r.body) (λ bytes.
    placed_bind r (fault_as (fault_of r) (object_in schema number bytes)) _
    (placed_as r (object_in schema number bytes)) (λ o. tt))))
    (placed_if r (r.kind == 2 && r.number == 0) _ _
    (placed_bind r (body_of r) _ (placed_stands r r.body)
    (λ bytes. placed_bind r (fault_as (fault_of r) (queue_in bytes)) _ (placed_as r (queue_in bytes)) (λ o. tt)))
    (placed_if r (r.kind == 3 && r.number == 0) _ _
    (placed_bind r (body_of r) _ (placed_stands r r.body)
    (λ bytes. placed_bind r (fault_as (fault_of r) (meta_in bytes)) _ (placed_as r (meta_in bytes)) (λ o. tt)))
    (placed_if r (r.kind == 4) _ _
    (placed_bind r (need (nat_lt r.number (2 ^ 32 - 1)) (bad_row r)) _ (placed_need r (nat_lt r.number (2 ^ 32 - 1)))
    (λ _.
    placed_bind r (body_of r) _ (placed_stands r r.body)
    (λ bytes. placed_bind r (fault_as (fault_of r) (record_in bytes)) _ (placed_as r (record_in bytes))
    (λ o. tt))))
    (refl, refl))))
