-- The rows that represent a directory, after the rows of a batch.
use Rattle.std.proofs.Common.{◌≡◌, ◌∙◌, inl, inr, ℕ, ◌<◌, Bool, true, false, ◌==◌, if◌then◌else◌, cond, List, [], ◌∷◌}
use Rattle.std.proofs.Common.{Option, Some, None, refl, sym, ap, subst, arith}
use Rattle.std.specs.Prelude.{slice_get, MatchOption, ◌≤◌}
use Rattle.ad_schema.specs.declared.line.SchemaRecord.{SchemaRecord}
use Rattle.std.specs.Option.{option_map_or}
use Rattle.std.proofs.lemmas.Bool.{and_parts, eqb-true, eqb-false}
use Rattle.std.proofs.lemmas.Option.{none-some, same_Some}
use Rattle.row_store.specs.declared.row.Row.{Row}
use Rattle.row_store.specs.Table.{Table, is_of, after_rows, with_rows}
use Rattle.row_store.proofs.Tables.{none_after}
use Rattle.prop_queue.specs.declared.pending.Pending.{Pending}
use Rattle.ad_dir_model.specs.Object.{Object}
use Rattle.ad_dir_model.specs.Objects.{object_of, put, removed}
use Rattle.ad_dir_model.specs.Directory.{Directory, Meta, Edit, put_object, remove_object, put_queue, put_meta}
use Rattle.ad_dir_model.specs.Directory.{edited, all_edited}
use Rattle.ad_dir_model.proofs.Finding.{of-put_same, of-put_other, of-removed_same, of-removed_other}
use Rattle.ad_rows_write.specs.Body.{SpellsObject, SpellsQueue, SpellsMeta, SpellsRecord}
use Rattle.ad_rows_write.specs.Rows.{HasBody, Shows, AreRowsOf}
use Rattle.ad_rows_write.specs.Batch.{kind_of, number_of, changes, last_change, row_at, RowsRise, HasRowOf}
use Rattle.ad_rows_write.specs.Batch.{AreRowsOfEdits}
use Rattle.ad_rows_write.proofs.Noted.{key_of}

-- ---- what rows leave

abbrev body_or : Option Row → Option (List ℕ) → Option (List ℕ)
body_or found before = option_map_or (λ row. row.body) found before

after_found : (rows : List Row) (k n : ℕ) (before : Option (List ℕ)) → RowsRise rows → after_rows rows k n before
    ≡ body_or (row_at k n rows) before
after_found [] k n before rise = refl
after_found (row ∷ rows) k n before rise = by (is_of k n row) refl (after_found rows k n before rise.1)
  where
    by : (b : Bool) → is_of k n row ≡ b → after_rows rows k n before ≡ body_or (row_at k n rows) before
        → after_rows (row ∷ rows) k n before ≡ body_or (row_at k n (row ∷ rows)) before
    by true e rest =
        ap (λ (b : Bool). after_rows rows k n (if b then row.body else before)) e ∙ none_after row rows k n row.body e
        rise.0
        ∙ sym (ap (λ (b : Bool). body_or (cond b (Some row) (row_at k n rows)) before) e)
    by false e rest =
        ap (λ (b : Bool). after_rows rows k n (if b then row.body else before)) e ∙ rest
        ∙ sym (ap (λ (b : Bool). body_or (cond b (Some row) (row_at k n rows)) before) e)

found_is : (k n : ℕ) (rows : List Row) (row : Row) → row_at k n rows ≡ Some row → (row.kind ≡ k) × (row.number ≡ n)
found_is k n [] row is = absurd (none-some row is)
found_is k n (first ∷ rows) row is = by (is_of k n first) refl (found_is k n rows row)
  where
    by : (b : Bool) → is_of k n first ≡ b → (row_at k n rows ≡ Some row → (row.kind ≡ k) × (row.number ≡ n))
        → (row.kind ≡ k) × (row.number ≡ n)
    by true e rest =
        let same : first ≡ row = same_Some first row (sym (ap (λ (b : Bool). cond b (Some first) (row_at k n rows)) e)
        ∙ is) in
        let parts = and_parts _ _ e in
        subst (λ (r : Row). (r.kind ≡ k) × (r.number ≡ n)) same
        (eqb-true first.kind k parts.0, eqb-true first.number n parts.1)
    by false e rest = rest (sym (ap (λ (b : Bool). cond b (Some first) (row_at k n rows)) e) ∙ is)

-- an edit whose row stands at a kind and number is of these
has_key : (rows : List Row) (k n : ℕ) (edit : Edit) → HasRowOf rows k n edit → (kind_of edit ≡ k) × (number_of edit ≡ n)
has_key rows k n edit has =
    let key = key_of edit has.0 has.2 in
    let at = found_is k n rows has.0 has.1 in
    (sym key.0 ∙ at.0, sym key.1 ∙ at.1)

-- ---- what edits leave

abbrev object_after : Option Edit → Option Object → Option Object
object_after (Some (put_object o)) was = Some o
object_after (Some (remove_object n)) was = None
object_after (Some (put_queue pending)) was = was
object_after (Some (put_meta meta)) was = was
object_after None was = was

abbrev pending_after : Option Edit → List Pending → List Pending
pending_after (Some (put_object o)) was = was
pending_after (Some (remove_object n)) was = was
pending_after (Some (put_queue pending)) was = pending
pending_after (Some (put_meta meta)) was = was
pending_after None was = was

abbrev meta_after : Option Edit → Meta → Meta
meta_after (Some (put_object o)) was = was
meta_after (Some (remove_object n)) was = was
meta_after (Some (put_queue pending)) was = was
meta_after (Some (put_meta meta)) was = meta
meta_after None was = was

put_step : (o : Object) (objects : List Object) (n : ℕ) (before : Option Edit) (was : Option Object)
    → object_of objects n ≡ object_after before was → (b : Bool) → (o.number == n) ≡ b
    → object_of (put o objects) n ≡ object_after (if b then Some (put_object o) else before) was
put_step o objects n before was is true e = subst (λ (m : ℕ). object_of (put o objects) m ≡ Some o)
    (eqb-true o.number n e) (of-put_same o objects)
put_step o objects n before was is false e = of-put_other o objects n (eqb-false o.number n e) ∙ is

remove_step : (m : ℕ) (objects : List Object) (n : ℕ) (before : Option Edit) (was : Option Object)
    → object_of objects n ≡ object_after before was → (b : Bool) → (m == n) ≡ b
    → object_of (removed m objects) n ≡ object_after (if b then Some (remove_object m) else before) was
remove_step m objects n before was is true e = subst (λ (k : ℕ). object_of (removed m objects) k ≡ None)
    (eqb-true m n e) (of-removed_same m objects)
remove_step m objects n before was is false e = of-removed_other m objects n (eqb-false m n e) ∙ is

object_step : (edit : Edit) (dir : Directory) (n : ℕ) (before : Option Edit) (was : Option Object)
    → object_of dir.objects n ≡ object_after before was
    → object_of (edited edit dir).objects n ≡ object_after (if changes 1 n edit then Some edit else before) was
unfolding edited
object_step (put_object o) dir n before was is = put_step o dir.objects n before was is (o.number == n) refl
object_step (remove_object m) dir n before was is = remove_step m dir.objects n before was is (m == n) refl
object_step (put_queue pending) dir n before was is = is
object_step (put_meta meta) dir n before was is = is

pending_step : (edit : Edit) (dir : Directory) (before : Option Edit) (was : List Pending) → dir.pending
    ≡ pending_after before was
    → (edited edit dir).pending ≡ pending_after (if changes 2 0 edit then Some edit else before) was
unfolding edited
pending_step (put_object o) dir before was is = is
pending_step (remove_object m) dir before was is = is
pending_step (put_queue pending) dir before was is = refl
pending_step (put_meta meta) dir before was is = is

meta_step : (edit : Edit) (dir : Directory) (before : Option Edit) (was : Meta) → dir.meta ≡ meta_after before was
    → (edited edit dir).meta ≡ meta_after (if changes 3 0 edit then Some edit else before) was
unfolding edited
meta_step (put_object o) dir before was is = is
meta_step (remove_object m) dir before was is = is
meta_step (put_queue pending) dir before was is = is
meta_step (put_meta meta) dir before was is = refl

schema_step : (edit : Edit) (dir : Directory) → (edited edit dir).schema ≡ dir.schema
unfolding edited
schema_step (put_object o) dir = refl
schema_step (remove_object m) dir = refl
schema_step (put_queue pending) dir = refl
schema_step (put_meta meta) dir = refl

objects_after : (edits : List Edit) (dir : Directory) (n : ℕ) (before : Option Edit) (was : Option Object)
    → object_of dir.objects n ≡ object_after before was
    → object_of (all_edited edits dir).objects n ≡ object_after (last_change 1 n before edits) was
unfolding all_edited
objects_after [] dir n before was is = is
objects_after (edit ∷ edits) dir n before was is = objects_after edits (edited edit dir) n
    (if changes 1 n edit then Some edit else before) was (object_step edit dir n before was is)

all_pending : (edits : List Edit) (dir : Directory) (before : Option Edit) (was : List Pending) → dir.pending
    ≡ pending_after before was → (all_edited edits dir).pending ≡ pending_after (last_change 2 0 before edits) was
unfolding all_edited
all_pending [] dir before was is = is
all_pending (edit ∷ edits) dir before was is = all_pending edits (edited edit dir)
    (if changes 2 0 edit then Some edit else before) was (pending_step edit dir before was is)

all_meta : (edits : List Edit) (dir : Directory) (before : Option Edit) (was : Meta) → dir.meta
    ≡ meta_after before was → (all_edited edits dir).meta ≡ meta_after (last_change 3 0 before edits) was
unfolding all_edited
all_meta [] dir before was is = is
all_meta (edit ∷ edits) dir before was is = all_meta edits (edited edit dir)
    (if changes 3 0 edit then Some edit else before) was (meta_step edit dir before was is)

all_schema : (edits : List Edit) (dir : Directory) → (all_edited edits dir).schema ≡ dir.schema
unfolding all_edited
all_schema [] dir = refl
all_schema (edit ∷ edits) dir = all_schema edits (edited edit dir) ∙ schema_step edit dir

-- ---- what the rows show then

shows_after : (rows : List Row) (n : ℕ) (was : Option Object) (stood : Option (List ℕ)) (last : Option Edit)
    → MatchOption last (row_at 1 n rows ≡ None) (HasRowOf rows 1 n) → Shows SpellsObject was stood
    → Shows SpellsObject (object_after last was) (body_or (row_at 1 n rows) stood)
shows_after rows n was stood None none shows = subst (λ (at : Option Row). Shows SpellsObject was (body_or at stood))
    (sym none) shows
shows_after rows n was stood (Some (put_object o)) has shows
    = subst (λ (at : Option Row). HasBody (SpellsObject o) (body_or at stood)) (sym has.1) has.2.2
shows_after rows n was stood (Some (remove_object m)) has shows = ap (λ (at : Option Row). body_or at stood) has.1
    ∙ has.2.2
shows_after rows n was stood (Some (put_queue pending)) has shows
    = absurd (let key = has_key rows 1 n (put_queue pending) has in omega (arith, key.0))
shows_after rows n was stood (Some (put_meta meta)) has shows
    = absurd (let key = has_key rows 1 n (put_meta meta) has in omega (arith, key.0))

queue_after : (rows : List Row) (was : List Pending) (stood : Option (List ℕ)) (last : Option Edit)
    → MatchOption last (row_at 2 0 rows ≡ None) (HasRowOf rows 2 0) → HasBody (SpellsQueue was) stood
    → HasBody (SpellsQueue (pending_after last was)) (body_or (row_at 2 0 rows) stood)
queue_after rows was stood None none shows = subst (λ (at : Option Row). HasBody (SpellsQueue was) (body_or at stood))
    (sym none) shows
queue_after rows was stood (Some (put_object o)) has shows
    = absurd (let key = has_key rows 2 0 (put_object o) has in omega (arith, key.0))
queue_after rows was stood (Some (remove_object m)) has shows
    = absurd (let key = has_key rows 2 0 (remove_object m) has in omega (arith, key.0))
queue_after rows was stood (Some (put_queue pending)) has shows
    = subst (λ (at : Option Row). HasBody (SpellsQueue pending) (body_or at stood)) (sym has.1) has.2.2
queue_after rows was stood (Some (put_meta meta)) has shows
    = absurd (let key = has_key rows 2 0 (put_meta meta) has in omega (arith, key.0))

counters_after : (rows : List Row) (was : Meta) (stood : Option (List ℕ)) (last : Option Edit)
    → MatchOption last (row_at 3 0 rows ≡ None) (HasRowOf rows 3 0) → HasBody (SpellsMeta was) stood
    → HasBody (SpellsMeta (meta_after last was)) (body_or (row_at 3 0 rows) stood)
counters_after rows was stood None none shows
    = subst (λ (at : Option Row). HasBody (SpellsMeta was) (body_or at stood)) (sym none) shows
counters_after rows was stood (Some (put_object o)) has shows
    = absurd (let key = has_key rows 3 0 (put_object o) has in omega (arith, key.0))
counters_after rows was stood (Some (remove_object m)) has shows
    = absurd (let key = has_key rows 3 0 (remove_object m) has in omega (arith, key.0))
counters_after rows was stood (Some (put_queue pending)) has shows
    = absurd (let key = has_key rows 3 0 (put_queue pending) has in omega (arith, key.0))
counters_after rows was stood (Some (put_meta meta)) has shows
    = subst (λ (at : Option Row). HasBody (SpellsMeta meta) (body_or at stood)) (sym has.1) has.2.2

-- where no edit's row can stand
none_at : (rows : List Row) (k n : ℕ) (last : Option Edit) → MatchOption last (row_at k n rows ≡ None)
    (HasRowOf rows k n) → ((edit : Edit) → kind_of edit ≡ k → number_of edit ≡ n → ⊥) → row_at k n rows ≡ None
none_at rows k n None none never = none
none_at rows k n (Some edit) has never = absurd (let key = has_key rows k n edit has in never edit key.0 key.1)

kinds : (edit : Edit) → (1 ≤ kind_of edit) × (kind_of edit ≤ 3)
kinds (put_object o) = (omega arith, omega arith)
kinds (remove_object n) = (omega arith, omega arith)
kinds (put_queue pending) = (omega arith, omega arith)
kinds (put_meta meta) = (omega arith, omega arith)

numbers_of : (edit : Edit) → 1 < kind_of edit → number_of edit ≡ 0
numbers_of (put_object o) more = absurd (omega (arith, more))
numbers_of (remove_object n) more = absurd (omega (arith, more))
numbers_of (put_queue pending) more = refl
numbers_of (put_meta meta) more = refl

pub follow_all : (dir : Directory) (table : Table) (edits : List Edit) (rows : List Row) → AreRowsOf dir table
    → AreRowsOfEdits edits rows → AreRowsOf (all_edited edits dir) (with_rows table rows)
follow_all dir table edits rows before batch = record {
  objects = λ n.
      subst (λ (found : Option Object). Shows SpellsObject found (with_rows table rows 1 n))
      (sym (objects_after edits dir n None (object_of dir.objects n) refl))
      (subst (Shows SpellsObject (object_after (last_change 1 n None edits) (object_of dir.objects n)))
      (sym (after_found rows 1 n (table 1 n) batch.rise))
      (shows_after rows n (object_of dir.objects n) (table 1 n) (last_change 1 n None edits) (batch.last 1 n)
      (before.objects n)));
  queue =
      subst (λ (pending : List Pending). HasBody (SpellsQueue pending) (with_rows table rows 2 0))
      (sym (all_pending edits dir None dir.pending refl))
      (subst (HasBody (SpellsQueue (pending_after (last_change 2 0 None edits) dir.pending)))
      (sym (after_found rows 2 0 (table 2 0) batch.rise))
      (queue_after rows dir.pending (table 2 0) (last_change 2 0 None edits) (batch.last 2 0) before.queue));
  meta =
      subst (λ (meta : Meta). HasBody (SpellsMeta meta) (with_rows table rows 3 0))
      (sym (all_meta edits dir None dir.meta refl))
      (subst (HasBody (SpellsMeta (meta_after (last_change 3 0 None edits) dir.meta)))
      (sym (after_found rows 3 0 (table 3 0) batch.rise))
      (counters_after rows dir.meta (table 3 0) (last_change 3 0 None edits) (batch.last 3 0) before.meta));
  schema = λ i.
      subst (λ (schema : List SchemaRecord). Shows SpellsRecord (slice_get schema i) (with_rows table rows 4 i))
      (sym (all_schema edits dir))
      (subst (Shows SpellsRecord (slice_get dir.schema i))
      (sym (same 4 i (λ edit kind number. let k = kinds edit in omega (arith, k.1, kind)))) (before.schema i));
  no_queue = λ n more. same 2 n (λ edit kind number. let none = numbers_of edit (omega (arith, kind))
      in omega (arith, none, number, more)) ∙ before.no_queue n more;
  no_meta = λ n more. same 3 n (λ edit kind number. let none = numbers_of edit (omega (arith, kind))
      in omega (arith, none, number, more)) ∙ before.no_meta n more;
  no_kind = λ k n out. same k n (λ edit kind number. let two = kinds edit in elim out [
    | inl none ↦ omega (arith, two.0, kind, none)
    | inr more ↦ omega (arith, two.1, kind, more)
  ]) ∙ before.no_kind k n out;
}
  where
    same : (k n : ℕ) → ((edit : Edit) → kind_of edit ≡ k → number_of edit ≡ n → ⊥) → with_rows table rows k n
        ≡ table k n
    same k n never = after_found rows k n (table k n) batch.rise ∙ ap (λ (at : Option Row). body_or at (table k n))
        (none_at rows k n (last_change k n None edits) (batch.last k n) never)
