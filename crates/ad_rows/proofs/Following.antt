-- The rows that represent a directory, after the row of an edit.
use Rattle.std.proofs.Common.{◌≡◌, ◌∙◌, ◌⊎◌, inl, inr, ℕ, ◌<◌, Bool, true, false, ◌==◌, ◌&&◌, if◌then◌else◌, List, []}
use Rattle.std.proofs.Common.{◌∷◌, Option, Some, None, refl, sym, ap, subst, arith}
use Rattle.std.proofs.lemmas.Bool.{eqb-true, eqb-false, ne_eqb}
use Rattle.row_store.specs.declared.row.Row.{Row}
use Rattle.row_store.specs.Table.{Table, with_rows}
use Rattle.prop_queue.specs.declared.pending.Pending.{Pending}
use Rattle.ad_dir_model.specs.Object.{Object}
use Rattle.ad_dir_model.specs.Objects.{object_of, put, removed}
use Rattle.ad_dir_model.specs.Directory.{Directory, Meta, Edit, put_object, remove_object, put_queue, put_meta, edited}
use Rattle.ad_dir_model.proofs.Finding.{of-put_same, of-put_other, of-removed_same, of-removed_other}
use Rattle.ad_rows_write.specs.Body.{SpellsObject, SpellsQueue, SpellsMeta}
use Rattle.ad_rows_write.specs.Rows.{Shows, AreRowsOf, IsRowOf}

-- a table with something else at one kind and number
abbrev at : Table → ℕ → ℕ → Option (List ℕ) → Table
at table k n stands kind number = if (k == kind) && (n == number) then stands else table kind number

is_at : (table : Table) (row : Row) (k n : ℕ) → row.kind ≡ k → row.number ≡ n → at table k n row.body
    ≡ with_rows table (row ∷ [])
is_at table row k n kind_is number_is = λ i kind number. if (sym kind_is i == kind) && (sym number_is i == number)
    then row.body else table kind number

far : (k kind : ℕ) → (kind ≡ 0) ⊎ (4 < kind) → 0 < k → k < 5 → (k == kind) ≡ false
far k kind (inl none) some few = ne_eqb k kind (λ same. omega (arith, none, same, some))
far k kind (inr more) some few = ne_eqb k kind (λ same. omega (arith, more, same, few))

-- at a kind that no directory has
beyond : (table : Table) (k n : ℕ) (stands : Option (List ℕ)) → 0 < k → k < 5
    → ((kind number : ℕ) → (kind ≡ 0) ⊎ (4 < kind) → table kind number ≡ None) → (kind number : ℕ) → (kind ≡ 0)
    ⊎ (4 < kind) → at table k n stands kind number ≡ None
beyond table k n stands some few none kind number out
    = ap (λ (b : Bool). if b && (n == number) then stands else table kind number) (far k kind out some few)
    ∙ none kind number out

-- the objects, with one more or another
shows_put : (o : Object) (objects : List Object) (body : List ℕ) (was : Option (List ℕ)) (number : ℕ)
    → SpellsObject o body → Shows SpellsObject (object_of objects number) was → (b : Bool) → (o.number == number) ≡ b
    → Shows SpellsObject (object_of (put o objects) number) (if b then Some body else was)
shows_put o objects body was number spelled shows true same =
    let found : object_of (put o objects) number ≡ Some o = subst (λ m. object_of (put o objects) m ≡ Some o)
    (eqb-true o.number number same) (of-put_same o objects) in
    subst (λ (x : Option Object). Shows SpellsObject x (Some body)) (sym found) (body, refl, spelled)
shows_put o objects body was number spelled shows false other =
    subst (λ (x : Option Object). Shows SpellsObject x was)
    (sym (of-put_other o objects number (eqb-false o.number number other))) shows

-- and with one less
shows_removed : (n : ℕ) (objects : List Object) (was : Option (List ℕ)) (number : ℕ)
    → Shows SpellsObject (object_of objects number) was → (b : Bool) → (n == number) ≡ b
    → Shows SpellsObject (object_of (removed n objects) number) (if b then None else was)
shows_removed n objects was number shows true same =
    let gone : object_of (removed n objects) number ≡ None = subst (λ m. object_of (removed n objects) m ≡ None)
    (eqb-true n number same) (of-removed_same n objects) in
    subst (λ (x : Option Object). Shows SpellsObject x None) (sym gone) refl
shows_removed n objects was number shows false other =
    subst (λ (x : Option Object). Shows SpellsObject x was)
    (sym (of-removed_other n objects number (eqb-false n number other))) shows

after_zero : (n : ℕ) → 0 < n → (0 == n) ≡ false
after_zero n more = ne_eqb 0 n (λ same. omega (arith, same, more))

rows_put : (dir : Directory) (table : Table) (o : Object) (body : List ℕ) → AreRowsOf dir table → SpellsObject o body
    → AreRowsOf (edited (put_object o) dir) (at table 1 o.number (Some body))
unfolding edited
rows_put dir table o body rows spelled = record {
  objects = λ number. shows_put o dir.objects body (table 1 number) number spelled (rows.objects number)
      (o.number == number) refl;
  queue = rows.queue;
  meta = rows.meta;
  schema = rows.schema;
  no_queue = rows.no_queue;
  no_meta = rows.no_meta;
  no_kind = beyond table 1 o.number (Some body) (omega arith) (omega arith) rows.no_kind;
}

rows_removed : (dir : Directory) (table : Table) (n : ℕ) → AreRowsOf dir table
    → AreRowsOf (edited (remove_object n) dir) (at table 1 n None)
unfolding edited
rows_removed dir table n rows = record {
  objects = λ number. shows_removed n dir.objects (table 1 number) number (rows.objects number) (n == number) refl;
  queue = rows.queue;
  meta = rows.meta;
  schema = rows.schema;
  no_queue = rows.no_queue;
  no_meta = rows.no_meta;
  no_kind = beyond table 1 n None (omega arith) (omega arith) rows.no_kind;
}

rows_queue : (dir : Directory) (table : Table) (pending : List Pending) (body : List ℕ) → AreRowsOf dir table
    → SpellsQueue pending body → AreRowsOf (edited (put_queue pending) dir) (at table 2 0 (Some body))
unfolding edited
rows_queue dir table pending body rows spelled = record {
  objects = rows.objects;
  queue = (body, refl, spelled);
  meta = rows.meta;
  schema = rows.schema;
  no_queue = λ number more. ap (λ (b : Bool). if b then Some body else table 2 number) (after_zero number more)
      ∙ rows.no_queue number more;
  no_meta = rows.no_meta;
  no_kind = beyond table 2 0 (Some body) (omega arith) (omega arith) rows.no_kind;
}

rows_meta : (dir : Directory) (table : Table) (meta : Meta) (body : List ℕ) → AreRowsOf dir table
    → SpellsMeta meta body → AreRowsOf (edited (put_meta meta) dir) (at table 3 0 (Some body))
unfolding edited
rows_meta dir table meta body rows spelled = record {
  objects = rows.objects;
  queue = rows.queue;
  meta = (body, refl, spelled);
  schema = rows.schema;
  no_queue = rows.no_queue;
  no_meta = λ number more. ap (λ (b : Bool). if b then Some body else table 3 number) (after_zero number more)
      ∙ rows.no_meta number more;
  no_kind = beyond table 3 0 (Some body) (omega arith) (omega arith) rows.no_kind;
}

pub follow : (dir : Directory) (table : Table) (edit : Edit) (changed : Row) → AreRowsOf dir table
    → IsRowOf edit changed
    → AreRowsOf (edited edit dir) (with_rows table (changed ∷ []))
follow dir table (put_object o) changed rows is =
    subst (AreRowsOf (edited (put_object o) dir))
    (ap (at table 1 o.number) (sym is.2.1) ∙ is_at table changed 1 o.number is.0 is.1)
    (rows_put dir table o is.2.0 rows is.2.2)
follow dir table (remove_object n) changed rows is =
    subst (AreRowsOf (edited (remove_object n) dir)) (ap (at table 1 n) (sym is.2) ∙ is_at table changed 1 n is.0 is.1)
    (rows_removed dir table n rows)
follow dir table (put_queue pending) changed rows is =
    subst (AreRowsOf (edited (put_queue pending) dir))
    (ap (at table 2 0) (sym is.2.1) ∙ is_at table changed 2 0 is.0 is.1)
    (rows_queue dir table pending is.2.0 rows is.2.2)
follow dir table (put_meta meta) changed rows is =
    subst (AreRowsOf (edited (put_meta meta) dir)) (ap (at table 3 0) (sym is.2.1) ∙ is_at table changed 3 0 is.0 is.1)
    (rows_meta dir table meta is.2.0 rows is.2.2)
