-- Which records stand among rows, and the schema that they make: what is told of the table.
use Rattle.std.proofs.Common.{◌≡◌, ◌∙◌, ◌⊎◌, inl, inr, ℕ, zero, suc, ◌+◌, ◌-◌, ◌^◌, ◌<◌, ◌≤◌, Bool, true, false, List}
use Rattle.std.proofs.Common.{[], ◌∷◌, ◌++◌, length, Option, Some, None, Result, Ok, Err, refl, sym, ap, subst}
use Rattle.std.proofs.Common.{append_assoc, arith, if◌then◌else◌}
use Rattle.std.specs.Prelude.{◌==◌, ◌&&◌, nat_lt, is_ok, slice_get, IfSome, IsSome}
use Rattle.std.specs.List.{AllByRecursion}
use Rattle.std.specs.Option.{option_and_then}
use Rattle.std.proofs.lemmas.List.{append-nil, length-append}
use Rattle.std.proofs.lemmas.Bool.{and_parts, eq-eqb, eqb-true, ltb-true, cases_lt}
use Rattle.std.proofs.lemmas.Option.{none-some, same_Some}
use Rattle.ad_bytes.specs.Reading.{IsBytes}
use Rattle.ad_schema.specs.Records.{added, finished}
use Rattle.ad_schema.specs.Meaning.{attr_is_link}
use Rattle.ad_schema.specs.Sound.{all_added}
use Rattle.ad_schema.specs.declared.line.SchemaRecord.{SchemaRecord}
use Rattle.ad_schema.specs.declared.fault.SchemaFault.{SchemaFault}
use Rattle.row_store.specs.declared.row.Row.{Row}
use Rattle.row_store.specs.Table.{Table, is_of, after_rows, table_of, ComesBefore, AreListed}
use Rattle.row_store.proofs.Tables.{none_after}
use Rattle.ad_rows.specs.declared.parsing.BodyFault.{BodyFault}
use Rattle.ad_rows_write.specs.Body.{SpellsRecord}
use Rattle.ad_rows.specs.Form.{HasSchema, CountsAsLink}
use Rattle.ad_rows.specs.Parsing.{record_in}
use Rattle.ad_rows_write.specs.Rows.{Shows}
use Rattle.ad_rows.specs.Taking.{HasBytes, if_added, added_of, with_next, past, records_among, schema_among}
use Rattle.ad_rows.proofs.Codec.{is_link_in}
use Rattle.ad_rows.proofs.Reread.{record_takes, record_read}
use Rattle.ad_rows.proofs.Sorted.{key_of, first_stands}
use Rattle.ad_rows.proofs.Sweep.{row_with, added_is, next_is, finished_is}

-- ---- what stands among rows

pub other_row : (k n : ℕ) (r : Row) (rows : List Row) → is_of k n r ≡ false → table_of (r ∷ rows) k n
    ≡ table_of rows k n
other_row k n r rows e = ap (λ (b : Bool). after_rows rows k n (if b then r.body else None)) e

pub this_row : (k n : ℕ) (r : Row) (rows : List Row) → is_of k n r ≡ true → ComesBefore r rows
    → table_of (r ∷ rows) k n ≡ r.body
this_row k n r rows e comes = ap (λ (b : Bool). after_rows rows k n (if b then r.body else None)) e
    ∙ none_after r rows k n r.body e comes

pub not_of : (k n : ℕ) (r : Row) → (r.kind ≡ k → r.number ≡ n → ⊥) → is_of k n r ≡ false
not_of k n r other = by (is_of k n r) refl
  where
    by : (b : Bool) → is_of k n r ≡ b → is_of k n r ≡ false
    by true e = let key = key_of k n r e in absurd (other key.0 key.1)
    by false e = e

-- a kind and number from another on
abbrev pub IsFrom : ℕ → ℕ → ℕ → ℕ → Type 0
IsFrom kf nf k n = (kf < k) ⊎ ((kf ≡ k) × (nf ≤ n))

abbrev pub RowsFrom : ℕ → ℕ → List Row → Type 0
RowsFrom kf nf rows = AllByRecursion (λ (r : Row). IsFrom kf nf r.kind r.number) rows

pub none_below : (kf nf : ℕ) (rows : List Row) (k n : ℕ) → RowsFrom kf nf rows → (IsFrom kf nf k n → ⊥)
    → table_of rows k n ≡ None
none_below kf nf [] k n from below = refl
none_below kf nf (r ∷ rows) k n from below =
    other_row k n r rows (not_of k n r (λ kind number.
    below (subst (λ (x : ℕ). IsFrom kf nf x n) kind (subst (IsFrom kf nf r.kind) number from.0))))
    ∙ none_below kf nf rows k n from.1 below

pub from_next : (r : Row) (rows : List Row) → ComesBefore r rows → RowsFrom r.kind (suc r.number) rows
from_next r [] comes = tt
from_next r (next ∷ rows) comes = (
  elim comes.0 [
    | inl lower ↦ inl lower
    | inr same ↦ inr (same.0, let less = same.1 in omega (arith, less))
  ],
  from_next r rows comes.1,
)

weaker : (k n : ℕ) (rows : List Row) → RowsFrom k (suc n) rows → RowsFrom k n rows
weaker k n [] from = tt
weaker k n (r ∷ rows) from = (
  elim from.0 [
    | inl lower ↦ inl lower
    | inr same ↦ inr (same.0, let more = same.1 in omega (arith, more))
  ],
  weaker k n rows from.1,
)

pub from_this : (r : Row) (rows : List Row) → ComesBefore r rows → RowsFrom r.kind r.number (r ∷ rows)
from_this r rows comes = (inr (refl, omega arith), weaker r.kind r.number rows (from_next r rows comes))

-- ---- one record more

record Next (before : List SchemaRecord) (r : Row) (new : List SchemaRecord) : Type 0 where
  one : SchemaRecord
  body : List ℕ
  number : r.number ≡ length before
  few : length before < 2 ^ 32 - 1
  stands : r.body ≡ Some body
  read : record_in body ≡ Ok one
  ok : is_ok (added before one.kind one.lines) ≡ true
  new_is : new ≡ before ++ one ∷ []

next_parts : (before : List SchemaRecord) (r : Row) (new : List SchemaRecord) → with_next before r ≡ Some new
    → Next before r new
unfolding with_next
next_parts before r new e = by (r.number == length before && nat_lt (length before) (2 ^ 32 - 1)) refl (r.body) refl
  where
    given : Bool → Option (List ℕ) → Option (List SchemaRecord)
    given b stands = if b then option_and_then (λ bytes. added_of before (record_in bytes)) stands else None

    ok_of : (one : SchemaRecord) (a : Result (List SchemaRecord) SchemaFault) → if_added a ≡ Some new → is_ok a ≡ true
    ok_of one (Ok all) is = refl
    ok_of one (Err fault) is = absurd (none-some new is)

    read_of : (body : List ℕ) → r.body ≡ Some body
        → (r.number == length before && nat_lt (length before) (2 ^ 32 - 1)) ≡ true
        → (read : Result SchemaRecord BodyFault) → record_in body ≡ read → added_of before read ≡ Some new
        → Next before r new
    read_of body stands test (Ok one) read is =
        let two = and_parts (r.number == length before) (nat_lt (length before) (2 ^ 32 - 1)) test in
        let ok = ok_of one (added before one.kind one.lines) is in
        record {
          one = one;
          body = body;
          number = eqb-true r.number (length before) two.0;
          few = ltb-true (length before) (2 ^ 32 - 1) two.1;
          stands = stands;
          read = read;
          ok = ok;
          new_is = same_Some new (before ++ one ∷ []) (sym is ∙ ap if_added (added_is before one ok));
        }
    read_of body stands test (Err fault) read is = absurd (none-some new is)

    by : (b : Bool) → (r.number == length before && nat_lt (length before) (2 ^ 32 - 1)) ≡ b
        → (stands : Option (List ℕ)) → r.body ≡ stands → Next before r new
    by true test (Some body) stands = read_of body stands test (record_in body) refl
        (sym (λ i. given (test i) (stands i)) ∙ e)
    by true test None stands = absurd (none-some new (sym (λ i. given (test i) (stands i)) ∙ e))
    by false test stood stands = absurd (none-some new (sym (ap (λ (b : Bool). given b r.body) test) ∙ e))

-- ---- the records that stand

record Among (before : List SchemaRecord) (rows : List Row) (all : List SchemaRecord) : Type 0 where
  more : List SchemaRecord
  is : all ≡ before ++ more
  shows : (i : ℕ) → Shows SpellsRecord (slice_get more i) (table_of rows 4 (length before + i))
  ok : all_added before more ≡ true
  few : length before < 2 ^ 32 → length all < 2 ^ 32

among : (before : List SchemaRecord) (rows : List Row) (all : List SchemaRecord) → AreListed rows
    → AllByRecursion HasBytes rows → records_among before rows ≡ Some all → Among before rows all
unfolding records_among past all_added
among before [] all listed bytes e =
    let same = same_Some before all e in
    record {
      more = [];
      is = sym same ∙ sym (append-nil before);
      shows = λ i. refl;
      ok = refl;
      few = λ less.
          subst (λ (l : List SchemaRecord). length l < 2 ^ 32) same less;
    }
among before (r ∷ rows) all listed bytes e = by (λ new. among new rows all listed.2 bytes.1) (r.kind == 4) refl
  where
    Again : Type 0
    Again = (new : List SchemaRecord) → records_among new rows ≡ Some all → Among new rows all

    step : Option (List SchemaRecord) → Option (List SchemaRecord)
    step found = option_and_then (λ more. records_among more rows) found

    on_kind : Bool → Option (List SchemaRecord)
    on_kind b = step (if b then with_next before r else Some before)

    next : Again → r.kind ≡ 4 → (new : Option (List SchemaRecord)) → with_next before r ≡ new → step new ≡ Some all
        → Among before (r ∷ rows) all
    next again kind None is all_is = absurd (none-some all all_is)
    next again kind (Some new) is all_is =
        let n = next_parts before r new is in
        let rest = again new all_is in
        let long : length new ≡ suc (length before) = ap length n.new_is ∙ length-append before (n.one ∷ [])
        ∙ omega arith in
        let number : r.number ≡ length before = n.number in
        record {
          more = n.one ∷ rest.more;
          is = rest.is ∙ ap (λ (l : List SchemaRecord). l ++ rest.more) n.new_is ∙ append_assoc before (n.one ∷ [])
              rest.more;
          shows = shows_at n.one rest.more n.body kind number n.stands
              (record_takes n.body n.one (subst (λ (o : Option (List ℕ)). IfSome o IsBytes) n.stands bytes.0) n.read)
              (λ i. subst (λ (m : ℕ). Shows SpellsRecord (slice_get rest.more i) (table_of rows 4 (m + i))) long
              (rest.shows i));
          ok = rw n.ok (subst (λ (l : List SchemaRecord). all_added l rest.more ≡ true) n.new_is rest.ok);
          few = λ less. rest.few (let few = n.few in omega (arith, few, long));
        }
      where
        shows_at : (one : SchemaRecord) (more : List SchemaRecord) (body : List ℕ) → r.kind ≡ 4 → r.number
            ≡ length before → r.body ≡ Some body → SpellsRecord one body
            → ((i : ℕ) → Shows SpellsRecord (slice_get more i) (table_of rows 4 (suc (length before) + i)))
            → (i : ℕ) → Shows SpellsRecord (slice_get (one ∷ more) i) (table_of (r ∷ rows) 4 (length before + i))
        shows_at one more body kind number stands spelled behind zero =
            let here : length before + 0 ≡ r.number = omega (arith, number) in
            let there : table_of (r ∷ rows) 4 (length before + 0) ≡ Some body =
            (λ i. table_of (r ∷ rows) (sym kind i) (here i)) ∙ first_stands r rows listed.1 ∙ stands in
            (body, there, spelled)
        shows_at one more body kind number stands spelled behind (suc i) =
            let past_it : length before + suc i ≡ suc (length before) + i = omega arith in
            let other = other_row 4 (length before + suc i) r rows
            (not_of 4 (length before + suc i) r (λ _ same. omega (arith, number, same))) in
            subst (Shows SpellsRecord (slice_get more i)) (sym (other ∙ ap (table_of rows 4) past_it)) (behind i)

    by : Again → (b : Bool) → (r.kind == 4) ≡ b → Among before (r ∷ rows) all
    by again true is = next again (eqb-true r.kind 4 is) (with_next before r) refl (sym (ap on_kind is) ∙ e)
    by again false is =
        let rest = again before (sym (ap on_kind is) ∙ e) in
        let off : (n : ℕ) → table_of (r ∷ rows) 4 n ≡ table_of rows 4 n = λ n.
        other_row 4 n r rows (not_of 4 n r
        (λ kind _. absurd (let clash : true ≡ false = sym (eq-eqb r.kind 4 kind) ∙ is in cc clash))) in
        record {
          more = rest.more;
          is = rest.is;
          shows = λ i. subst (Shows SpellsRecord (slice_get rest.more i))
              (sym (off (length before + i))) (rest.shows i);
          ok = rest.ok;
          few = rest.few;
        }

-- ---- records that stand are found

found : (before more : List SchemaRecord) (rows : List Row) → AreListed rows → length before + length more < 2 ^ 32
    → all_added before more ≡ true
    → ((i : ℕ) → Shows SpellsRecord (slice_get more i) (table_of rows 4 (length before + i)))
    → ((n : ℕ) → n < length before → table_of rows 4 n ≡ None) → records_among before rows ≡ Some (before ++ more)
unfolding records_among past all_added
found before [] [] listed few ok shows below = ap (λ (l : List SchemaRecord). Some l) (sym (append-nil before))
found before (x ∷ more) [] listed few ok shows below = absurd (none-some (shows 0).0 (shows 0).1)
found before more (r ∷ rows) listed few ok shows below = by (λ new others. found new others rows listed.2)
    (r.kind == 4) refl
  where
    Again : Type 0
    Again = (new others : List SchemaRecord) → length new + length others < 2 ^ 32 → all_added new others ≡ true
        → ((i : ℕ) → Shows SpellsRecord (slice_get others i) (table_of rows 4 (length new + i)))
        → ((n : ℕ) → n < length new → table_of rows 4 n ≡ None) → records_among new rows ≡ Some (new ++ others)

    on_kind : Bool → Option (List SchemaRecord)
    on_kind b = option_and_then (λ new. records_among new rows) (if b then with_next before r else Some before)

    body : (b : List ℕ) × (r.body ≡ Some b)
    body = some_is r.body listed.0
      where
        some_is : (stands : Option (List ℕ)) → IsSome stands → (b : List ℕ) × (stands ≡ Some b)
        some_is None is = absurd cc
        some_is (Some b) is = (b, refl)

    at : r.kind ≡ 4 → (n : ℕ) → r.number ≡ n → table_of (r ∷ rows) 4 n ≡ Some body.0
    at kind n number = (λ i. table_of (r ∷ rows) (sym kind i) (sym number i)) ∙ first_stands r rows listed.1 ∙ body.1

    above : r.kind ≡ 4 → length before ≤ r.number
    above kind = elim (cases_lt r.number (length before)) [
      | inl less ↦ absurd (none-some body.0 (sym (below r.number less) ∙ at kind r.number refl))
      | inr more ↦ more
    ]

    here : Again → r.kind ≡ 4 → (xs : List SchemaRecord) → xs ≡ more → option_and_then (λ new. records_among new rows)
        (with_next before r) ≡ Some (before ++ xs)
    here again kind [] same =
        let place : length before + (r.number - length before) ≡ r.number = let least = above kind
        in omega (arith, least) in
        let none : table_of (r ∷ rows) 4 (length before + (r.number - length before)) ≡ None
        = subst (λ (l : List SchemaRecord). Shows SpellsRecord (slice_get l (r.number - length before))
        (table_of (r ∷ rows) 4 (length before + (r.number - length before)))) (sym same)
        (shows (r.number - length before)) in
        absurd (none-some body.0 (sym none ∙ at kind (length before + (r.number - length before)) (sym place)))
    here again kind (x ∷ others) same =
        let shows_x : (i : ℕ) → Shows SpellsRecord (slice_get (x ∷ others) i)
        (table_of (r ∷ rows) 4 (length before + i)) = λ i.
        subst (λ (l : List SchemaRecord). Shows SpellsRecord (slice_get l i)
        (table_of (r ∷ rows) 4 (length before + i))) (sym same) (shows i) in
        let ok_x : all_added before (x ∷ others) ≡ true = subst (λ (l : List SchemaRecord). all_added before l ≡ true)
        (sym same) ok in
        let few_x : length before + length (x ∷ others) < 2 ^ 32
        = subst (λ (l : List SchemaRecord). length before + length l < 2 ^ 32) (sym same) few in
        let parts = and_parts (is_ok (added before x.kind x.lines)) (all_added (before ++ x ∷ []) others) ok_x in
        let number : r.number ≡ length before = exact (shows_x 0).0 (shows_x 0).1 kind in
        let stood : body.0 ≡ (shows_x 0).0 = same_Some body.0 (shows_x 0).0
        (sym (at kind (length before + 0) (omega (arith, number))) ∙ (shows_x 0).1) in
        let read : record_in body.0 ≡ Ok x = ap record_in stood ∙ record_read x (shows_x 0).0 (shows_x 0).2 in
        let few_before : length before < 2 ^ 32 - 1 = omega (arith, few_x) in
        let row_is : r ≡ row_with 4 (length before) body.0
        = (λ i. record { kind = kind i; number = number i; body = body.1 i }) in
        let next : with_next before r ≡ Some (before ++ x ∷ []) = ap (with_next before) row_is
        ∙ next_is before x body.0 few_before read parts.0 in
        let long : length (before ++ x ∷ []) ≡ suc (length before) = length-append before (x ∷ []) ∙ omega arith in
        let rest = again (before ++ x ∷ []) others (omega (arith, long, few_x)) parts.1
        (λ i.
        let shift : length before + suc i ≡ length (before ++ x ∷ []) + i = omega (arith, long) in
        let other = other_row 4 (length before + suc i) r rows
        (not_of 4 (length before + suc i) r (λ _ it. omega (arith, number, it))) in
        subst (Shows SpellsRecord (slice_get others i)) (other ∙ ap (table_of rows 4) shift) (shows_x (suc i)))
        (λ n less. none_below r.kind (suc r.number) rows 4 n (from_next r rows listed.1) (λ from. elim from [
          | inl lower ↦ omega (arith, lower, kind)
          | inr level ↦ (let most = level.1 in omega (arith, most, number, long, less))
        ])) in
        ap (option_and_then (λ new. records_among new rows)) next ∙ rest ∙ ap (λ (l : List SchemaRecord). Some l)
        (append_assoc before (x ∷ []) others)
      where
        exact : (b : List ℕ) → table_of (r ∷ rows) 4 (length before + 0) ≡ Some b → r.kind ≡ 4 → r.number
            ≡ length before
        exact b stands kind = elim (cases_lt (length before) r.number) [
          | inl more ↦ absurd (none-some b
              (sym (none_below r.kind r.number (r ∷ rows) 4 (length before + 0) (from_this r rows listed.1)
              (λ from. elim from [
                | inl lower ↦ omega (arith, lower, kind)
                | inr level ↦ (let most = level.1 in omega (arith, most, more))
              ])) ∙ stands))
          | inr less ↦ (let least = above kind in omega (arith, less, least))
        ]

    by : Again → (b : Bool) → (r.kind == 4) ≡ b → on_kind b ≡ Some (before ++ more)
    by again true is = here again (eqb-true r.kind 4 is) more refl
    by again false is =
        let off : (n : ℕ) → table_of (r ∷ rows) 4 n ≡ table_of rows 4 n = λ n.
        other_row 4 n r rows (not_of 4 n r
        (λ kind _. absurd (let clash : true ≡ false = sym (eq-eqb r.kind 4 kind) ∙ is in cc clash))) in
        again before more few ok (λ i. subst (Shows SpellsRecord (slice_get more i)) (off (length before + i))
        (shows i)) (λ n less. sym (off n) ∙ below n less)

-- ---- the schema

pub schema_there : (rows : List Row) (schema : List SchemaRecord) → AreListed rows → HasSchema (table_of rows) schema
    → schema_among rows ≡ Some schema
unfolding schema_among
schema_there rows schema listed has =
    let few = has.makes.added.few in
    let all : records_among [] rows ≡ Some schema = found [] schema rows listed (omega (arith, few))
    has.makes.added.added (λ i. let same : i ≡ 0 + i = omega arith
    in subst (λ (n : ℕ). Shows SpellsRecord (slice_get schema i) (table_of rows 4 n)) same (has.rows i))
    (λ n less. absurd (omega (arith, less))) in
    ap (option_and_then (λ records. if_added (finished records))) all ∙ finished_is schema has.makes.finished

pub schema_has : (rows : List Row) (schema : List SchemaRecord) → AreListed rows → AllByRecursion HasBytes rows
    → schema_among rows ≡ Some schema → HasSchema (table_of rows) schema
unfolding schema_among
schema_has rows schema listed bytes e = by (records_among [] rows) refl
  where
    ok_of : (a : Result (List SchemaRecord) SchemaFault) → if_added a ≡ Some schema → is_ok a ≡ true
    ok_of (Ok all) is = refl
    ok_of (Err fault) is = absurd (none-some schema is)

    by : (all : Option (List SchemaRecord)) → records_among [] rows ≡ all → HasSchema (table_of rows) schema
    by None is = absurd (none-some schema (sym (ap (option_and_then (λ records. if_added (finished records))) is) ∙ e))
    by (Some records) is =
        let a = among [] rows records listed bytes is in
        let made : if_added (finished records) ≡ Some schema
        = sym (ap (option_and_then (λ rs. if_added (finished rs))) is) ∙ e in
        let ok = ok_of (finished records) made in
        let same : records ≡ schema = same_Some records schema (sym (finished_is records ok) ∙ made) in
        subst (HasSchema (table_of rows)) same (record {
          rows = λ i. subst (λ (l : List SchemaRecord). Shows SpellsRecord (slice_get l i) (table_of rows 4 i))
              (sym a.is) (let same : 0 + i ≡ i = omega arith
              in subst (λ (n : ℕ). Shows SpellsRecord (slice_get a.more i) (table_of rows 4 n)) same (a.shows i));
          makes = record {
            added = record {
              few = a.few (omega arith);
              added = subst (λ (l : List SchemaRecord). all_added [] l ≡ true) (sym a.is)
                  a.ok;
            };
            finished = ok;
          };
        })

-- which attributes count as links, by the schema that was found
pub record Knows (table : Table) (schema : Option (List SchemaRecord)) : Type 0 where
  pub links : (attr : ℕ) → is_link_in schema attr ≡ true → CountsAsLink table attr
  pub back : (attr : ℕ) → CountsAsLink table attr → is_link_in schema attr ≡ true

pub knows : (rows : List Row) → AreListed rows → AllByRecursion HasBytes rows
    → Knows (table_of rows) (schema_among rows)
knows rows listed bytes = by (schema_among rows) refl
  where
    by : (schema : Option (List SchemaRecord)) → schema_among rows ≡ schema → Knows (table_of rows) schema
    by None is = record {
      links = λ attr no. absurd cc;
      back = λ attr counts. absurd (none-some counts.0 (sym is ∙ schema_there rows counts.0 listed counts.1));
    }
    by (Some schema) is = record {
      links = λ attr link. (schema, schema_has rows schema listed bytes is, link);
      back = λ attr counts.
          let same : counts.0 ≡ schema = same_Some counts.0 schema (sym (schema_there rows counts.0 listed counts.1)
          ∙ is) in
          subst (λ (s : List SchemaRecord). attr_is_link s attr ≡ true) same counts.2;
    }
