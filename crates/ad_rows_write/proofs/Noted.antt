-- The rows that a batch keeps, and one more.
use Rattle.std.proofs.Common.{◌≡◌, ◌∙◌, ◌↔◌, ℕ, ◌<◌, Bool, true, false, cond, if◌then◌else◌, ◌&&◌, ◌==◌, List, []}
use Rattle.std.proofs.Common.{◌∷◌, ◌++◌, length, Option, Some, None, refl, sym, ap, subst, arith}
use Rattle.std.proofs.Common.{rules, tests}
use Rattle.std.specs.Prelude.{option_map, IsSome, MatchOption, OnOk, Result, Ok, Err}
use Rattle.std.proofs.lemmas.Bool.{and_parts, eqb-true}
use Rattle.std.proofs.lemmas.List.{append-nil}
use Rattle.std.specs.BTreeMap.{is_at}
use Rattle.std.specs.Map.{keys_of, lookup}
use Rattle.std.specs.List.Sorted.{IsStrictlySortedBy}
use Rattle.row_store.specs.declared.row.Row.{Row}
use Rattle.row_store.specs.Left.{key_cmp, row_of, rows_of}
use Rattle.row_store.specs.Table.{is_of, ComesBefore, AreListed}
use Rattle.row_store.proofs.Lists.{key_at, are_listed}
use Rattle.ad_dir_model.specs.Directory.{Edit, put_object, remove_object, put_queue, put_meta}
use Rattle.ad_rows_write.specs.Rows.{IsRowOf}
use Rattle.ad_rows_write.specs.Noted.{row_noted, rows_noted}
use Rattle.ad_rows_write.specs.Batch.{kind_of, number_of, changes, last_change, row_at, RowsRise, HasRowOf}
use Rattle.ad_rows_write.specs.Batch.{AreRowsOfEdits}

abbrev Entry : Type 0
Entry = (ℕ × ℕ) × Option (List ℕ)

-- ---- their order

-- the same keys, with a body each
bodied : List Entry → List ((ℕ × ℕ) × List ℕ)
bodied [] = []
bodied (entry ∷ entries) = (entry.0, []) ∷ bodied entries

bodied_keys : (entries : List Entry) → keys_of (bodied entries) ≡ keys_of entries
unfolding bodied
bodied_keys [] = refl
bodied_keys (entry ∷ entries) = ap (λ (keys : List (ℕ × ℕ)). entry.0 ∷ keys) (bodied_keys entries)

before_bodied : (entry : Entry) (entries : List Entry) → ComesBefore (row_of (entry.0, [])) (rows_of (bodied entries))
    → ComesBefore (row_noted entry) (rows_noted entries)
unfolding bodied
before_bodied entry [] comes = tt
before_bodied entry (next ∷ entries) comes = (comes.0, before_bodied entry entries comes.1)

rise_bodied : (entries : List Entry) → AreListed (rows_of (bodied entries)) → RowsRise (rows_noted entries)
unfolding bodied
rise_bodied [] listed = tt
rise_bodied (entry ∷ entries) listed = (before_bodied entry entries listed.1, rise_bodied entries listed.2)

pub noted_rise : (entries : List Entry) → IsStrictlySortedBy key_cmp (keys_of entries) → RowsRise (rows_noted entries)
noted_rise entries sorted = rise_bodied entries
    (are_listed (bodied entries) (subst (IsStrictlySortedBy key_cmp) (sym (bodied_keys entries)) sorted))

-- ---- what stands at a kind and number

eqb_turned : (x y : ℕ) → (x == y) ≡ (y == x)
eqb_turned x y = search (rules, tests)

key_is : (k n : ℕ) (entry : Entry) → is_at (key_cmp (k, n)) entry.0 ≡ is_of k n (row_noted entry)
key_is k n entry = key_at k n entry.0.0 entry.0.1 ∙ (λ i. eqb_turned k entry.0.0 i && eqb_turned n entry.0.1 i)

abbrev row_with : ℕ → ℕ → Option (List ℕ) → Row
row_with k n body = record { kind = k; number = n; body = body }

pub noted_at : (k n : ℕ) (entries : List Entry) → row_at k n (rows_noted entries) ≡ option_map (row_with k n)
    (lookup (is_at (key_cmp (k, n))) entries)
noted_at k n [] = refl
noted_at k n (entry ∷ entries) = by (is_of k n (row_noted entry)) refl (noted_at k n entries)
  where
    by : (b : Bool) → is_of k n (row_noted entry) ≡ b → row_at k n (rows_noted entries) ≡ option_map (row_with k n)
        (lookup (is_at (key_cmp (k, n))) entries) → row_at k n (rows_noted (entry ∷ entries))
        ≡ option_map (row_with k n) (lookup (is_at (key_cmp (k, n))) (entry ∷ entries))
    by true e rest =
        let parts = and_parts _ _ e in
        ap (λ (b : Bool). cond b (Some (row_noted entry)) (row_at k n (rows_noted entries))) e
        ∙ (λ i. Some (record {
          kind = eqb-true entry.0.0 k parts.0 i;
          number = eqb-true entry.0.1 n parts.1 i;
          body
              = entry.1;
        }))
        ∙ sym (ap (λ (b : Bool). option_map (row_with k n)
        (cond b (Some entry.1) (lookup (is_at (key_cmp (k, n))) entries))) (key_is k n entry ∙ e))
    by false e rest =
        ap (λ (b : Bool). cond b (Some (row_noted entry)) (row_at k n (rows_noted entries))) e
        ∙ rest
        ∙ sym (ap (λ (b : Bool). option_map (row_with k n)
        (cond b (Some entry.1) (lookup (is_at (key_cmp (k, n))) entries))) (key_is k n entry ∙ e))

-- one row put
pub noted_more : (row : Row) (old new : List Entry)
    → ((q : ℕ × ℕ) → lookup (is_at (key_cmp q)) new ≡ cond (is_at (key_cmp (row.kind, row.number)) q) (Some row.body)
    (lookup (is_at (key_cmp q)) old))
    → (k n : ℕ) → row_at k n (rows_noted new) ≡ (if is_of k n row then Some row else row_at k n (rows_noted old))
noted_more row old new updates k n =
    noted_at k n new ∙ ap (option_map (row_with k n)) (updates (k, n)) ∙ by (is_of k n row) refl
  where
    by : (b : Bool) → is_of k n row ≡ b → option_map (row_with k n)
        (cond (is_at (key_cmp (row.kind, row.number)) (k, n)) (Some row.body) (lookup (is_at (key_cmp (k, n))) old))
        ≡ (if is_of k n row then Some row else row_at k n (rows_noted old))
    by true e =
        let parts = and_parts _ _ e in
        ap (λ (b : Bool). option_map (row_with k n) (cond b (Some row.body) (lookup (is_at (key_cmp (k, n))) old)))
        (key_at row.kind row.number k n ∙ e)
        ∙ (λ i. Some (record {
          kind = sym (eqb-true row.kind k parts.0) i;
          number
              = sym (eqb-true row.number n parts.1) i;
          body = row.body;
        }))
        ∙ sym (ap (λ (b : Bool). cond b (Some row) (row_at k n (rows_noted old))) e)
    by false e =
        ap (λ (b : Bool). option_map (row_with k n) (cond b (Some row.body) (lookup (is_at (key_cmp (k, n))) old)))
        (key_at row.kind row.number k n ∙ e)
        ∙ sym (noted_at k n old)
        ∙ sym (ap (λ (b : Bool). cond b (Some row) (row_at k n (rows_noted old))) e)

-- ---- the rows of edits

pub key_of : (edit : Edit) (row : Row) → IsRowOf edit row → (row.kind ≡ kind_of edit) × (row.number ≡ number_of edit)
key_of (put_object o) row is = (is.0, is.1)
key_of (remove_object n) row is = (is.0, is.1)
key_of (put_queue pending) row is = (is.0, is.1)
key_of (put_meta meta) row is = (is.0, is.1)

last_push : (k n : ℕ) (before : Option Edit) (edits : List Edit) (edit : Edit)
    → last_change k n before (edits ++ edit ∷ [])
    ≡ (if changes k n edit then Some edit else last_change k n before edits)
last_push k n before [] edit = refl
last_push k n before (first ∷ edits) edit = last_push k n (if changes k n first then Some first else before) edits edit

-- one edit more
pub edits_more : (edits : List Edit) (edit : Edit) (row : Row) (old new : List Row) → IsRowOf edit row → RowsRise new
    → ((k n : ℕ) → row_at k n new ≡ (if is_of k n row then Some row else row_at k n old)) → AreRowsOfEdits edits old
    → AreRowsOfEdits (edits ++ edit ∷ []) new
edits_more edits edit row old new is rise found before = record {
  rise = rise;
  last = λ k n. at k n (changes k n edit) refl;
}
  where
    same : (k n : ℕ) → is_of k n row ≡ changes k n edit
    same k n = let key = key_of edit row is in λ i. (key.0 i == k) && (key.1 i == n)

    at : (k n : ℕ) (b : Bool) → changes k n edit ≡ b → MatchOption (last_change k n None (edits ++ edit ∷ []))
        (row_at k n new ≡ None) (HasRowOf new k n)
    at k n true e =
        subst (λ (last : Option Edit). MatchOption last (row_at k n new ≡ None) (HasRowOf new k n))
        (sym (last_push k n None edits edit
        ∙ ap (λ (b : Bool). if b then Some edit else last_change k n None edits) e))
        (row, found k n ∙ ap (λ (b : Bool). if b then Some row else row_at k n old) (same k n ∙ e), is)
    at k n false e =
        subst (λ (last : Option Edit). MatchOption last (row_at k n new ≡ None) (HasRowOf new k n))
        (sym (last_push k n None edits edit
        ∙ ap (λ (b : Bool). if b then Some edit else last_change k n None edits) e))
        (subst (λ (at : Option Row). MatchOption (last_change k n None edits) (at ≡ None)
        (λ ed. (r : Row) × (at ≡ Some r) × IsRowOf ed r))
        (sym (found k n ∙ ap (λ (b : Bool). if b then Some row else row_at k n old) (same k n ∙ e))) (before.last k n))

pub no_edits : AreRowsOfEdits [] []
no_edits = record { rise = tt; last = λ k n. refl }

nothing_left : (entries : List Entry) (first : Option Entry) → (IsSome first ↔ (0 < length entries)) → first ≡ None
    → entries ≡ []
nothing_left [] first some none = refl
nothing_left (entry ∷ entries) first some none = let is_some : IsSome first = some.1 (omega arith) in cc (is_some, none)

-- all rows were taken
pub all_listed : (rows : List Row) (left entries : List Entry) (first : Option Entry)
    → (IsSome first ↔ (0 < length left)) → first ≡ None → rows ++ rows_noted left ≡ rows_noted entries → rows
    ≡ rows_noted entries
all_listed rows left entries first some none so_far =
    let empty : left ≡ [] = nothing_left left first some none in
    sym (append-nil rows) ∙ ap (λ (l : List Entry). rows ++ rows_noted l) (sym empty) ∙ so_far

-- two facts of one answer
pub on_ok_two : {A E P Q R : Type 0} (r : Result A E) → (P → Q → R) → OnOk r P → OnOk r Q → OnOk r R
on_ok_two (Ok x) f p q = f p q
on_ok_two (Err e) f p q = tt
