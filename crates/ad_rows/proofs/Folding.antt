-- Rows are taken in up to the least that isn't of its form, where one isn't.
use Rattle.std.proofs.Common.{◌≡◌, ◌∙◌, ◌⊎◌, inl, inr, ℕ, suc, ◌<◌, Bool, true, false, List, [], ◌∷◌, Option, Some}
use Rattle.std.proofs.Common.{None, Result, Ok, Err, refl, sym, ap, subst, arith, if◌then◌else◌}
use Rattle.std.specs.Prelude.{◌==◌, ◌&&◌, ◌||◌, nat_lt, is_none, IfSome, IsSome, MatchOption}
use Rattle.std.specs.List.{AllByRecursion}
use Rattle.std.proofs.lemmas.Bool.{and_parts, eq-eqb, eqb-true, lt-ltb, ltb-true, cases_lt, cases_order}
use Rattle.ad_bytes.specs.Reading.{IsBytes, ◌>>=◌}
use Rattle.ad_schema.specs.declared.line.SchemaRecord.{SchemaRecord}
use Rattle.row_store.specs.declared.row.Row.{Row}
use Rattle.row_store.specs.Table.{Table, table_of, ComesBefore, AreListed}
use Rattle.ad_rows.specs.declared.fault.RowFault.{RowFault}
use Rattle.ad_rows.specs.declared.fault.RowFault.TheVariants as fault
use Rattle.ad_rows.specs.Form.{IsForm, MustStand, IsRight, IsSooner, AreRight, IsLeastBad}
use Rattle.ad_rows.specs.Taking.{Parts, HasBytes, no_parts, completed, is_behind, in_place, with_any, with_row}
use Rattle.ad_rows.specs.Taking.{with_rows}
use Rattle.ad_rows.proofs.Forms.{Takes, takes_object, takes_queue, takes_meta, takes_record, any_takes, takes_form}
use Rattle.ad_rows.proofs.Forms.{form_given, IsPlacedAt, any_placed}
use Rattle.ad_rows.proofs.Schemas.{Knows, other_row, not_of, IsFrom, RowsFrom, none_below, from_next, from_this}
use Rattle.ad_rows.proofs.Sorted.{first_stands}

-- ---- kinds and numbers

from_trans : (kf nf k n kt nt : ℕ) → IsFrom kf nf k n → IsFrom k (suc n) kt nt → IsFrom kf nf kt nt
from_trans kf nf k n kt nt (inl a) (inl b) = inl (omega (arith, a, b))
from_trans kf nf k n kt nt (inl a) (inr b) = inl (let same = b.0 in omega (arith, a, same))
from_trans kf nf k n kt nt (inr a) (inl b) = inl (let same = a.0 in omega (arith, same, b))
from_trans kf nf k n kt nt (inr a) (inr b) = inr (a.0 ∙ b.0, let x = a.1 in let y = b.1 in omega (arith, x, y))

not_sooner : (k n kt nt : ℕ) → IsSooner k n kt nt → IsFrom kt nt k n → ⊥
not_sooner k n kt nt (inl a) (inl b) = omega (arith, a, b)
not_sooner k n kt nt (inl a) (inr b) = let same = b.0 in omega (arith, a, same)
not_sooner k n kt nt (inr a) (inl b) = let same = a.0 in omega (arith, same, b)
not_sooner k n kt nt (inr a) (inr b) = let x = a.1 in let y = b.1 in omega (arith, x, y)

-- before a place, at it, or from the next one on
pub split : (k n kt nt : ℕ) → IsSooner k n kt nt ⊎ (((kt ≡ k) × (nt ≡ n)) ⊎ IsFrom kt (suc nt) k n)
split k n kt nt = elim (cases_order k kt) [
  | inl same ↦ elim (cases_order n nt) [
    | inl level ↦ inr (inl (sym same, sym level))
    | inr apart ↦ elim apart [
      | inl less ↦ inl (inr (same, less))
      | inr more ↦ inr (inr (inr (sym same, omega (arith, more))))
    ]
  ]
  | inr apart ↦ elim apart [
    | inl less ↦ inl (inl less)
    | inr more ↦ inr (inr (inl more))
  ]
]

behind_is : (kind : ℕ) (r : Row) → IsSooner kind 0 r.kind r.number → is_behind kind r ≡ true
behind_is kind r (inl less) = ap (λ (b : Bool). b || (r.kind == kind && nat_lt 0 r.number)) (lt-ltb kind r.kind less)
behind_is kind r (inr same) =
    (λ i. nat_lt kind r.kind || (eq-eqb r.kind kind (sym same.0) i && lt-ltb 0 r.number same.1 i))
    ∙ or_true (nat_lt kind r.kind)
  where
    or_true : (b : Bool) → (b || true) ≡ true
    or_true true = refl
    or_true false = refl

behind_sooner : (kind : ℕ) (r : Row) → is_behind kind r ≡ true → IsSooner kind 0 r.kind r.number
behind_sooner kind r is = by (nat_lt kind r.kind) refl
  where
    by : (b : Bool) → nat_lt kind r.kind ≡ b → IsSooner kind 0 r.kind r.number
    by true less = inl (ltb-true kind r.kind less)
    by false more =
        let two = and_parts (r.kind == kind) (nat_lt 0 r.number)
        (sym (ap (λ (b : Bool). b || (r.kind == kind && nat_lt 0 r.number)) more) ∙ is) in
        inr (sym (eqb-true r.kind kind two.0), ltb-true 0 r.number two.1)

clash : {A : Type 0} (b : Bool) → b ≡ true → b ≡ false → A
clash b is isn't = absurd (let no_way : true ≡ false = sym is ∙ isn't in cc no_way)

-- ---- what stands

module _ (table : Table) where
  right_none : (k n : ℕ) → table k n ≡ None → (MustStand k n → ⊥) → IsRight table k n
  right_none k n none free = subst (λ (stands : Option (List ℕ)). MatchOption stands (MustStand k n → ⊥)
      (IsForm table k n)) (sym none) free

  right_some : (k n : ℕ) (body : List ℕ) → table k n ≡ Some body → IsForm table k n body → IsRight table k n
  right_some k n body some form = subst (λ (stands : Option (List ℕ)). MatchOption stands (MustStand k n → ⊥)
      (IsForm table k n)) (sym some) form

  wrong_none : (k n : ℕ) → table k n ≡ None → MustStand k n → IsRight table k n → ⊥
  wrong_none k n none must right = subst (λ (stands : Option (List ℕ)). MatchOption stands (MustStand k n → ⊥)
      (IsForm table k n)) none right must

  pub form_there : (k n : ℕ) (body : List ℕ) → table k n ≡ Some body → IsRight table k n → IsForm table k n body
  form_there k n body some right = subst (λ (stands : Option (List ℕ)). MatchOption stands (MustStand k n → ⊥)
      (IsForm table k n)) some right

-- ---- up to the least bad row

-- what is told of what was taken in by the place from which on rows are still to be taken
record Stand (kf nf : ℕ) (parts : Parts) : Type 0 where
  last : (n : ℕ) → IsFrom kf nf 1 n → 0 < n → parts.last < n
  queue : is_none parts.pending ≡ true → IsFrom kf nf 2 0
  past_queue : is_none parts.pending ≡ false → IsFrom kf nf 2 0 → ⊥
  meta : is_none parts.meta ≡ true → IsFrom kf nf 3 0
  past_meta : is_none parts.meta ≡ false → IsFrom kf nf 3 0 → ⊥

module _ (table : Table) (schema : Option (List SchemaRecord)) (knows : Knows table schema) where
  record LeastFrom (kf nf k n : ℕ) : Type 0 where
    bad : IsRight table k n → ⊥
    before : (kt nt : ℕ) → IsFrom kf nf kt nt → IsSooner kt nt k n → IsRight table kt nt

  abbrev Says : ℕ → ℕ → Result Parts RowFault → Type 0
  Says kf nf (Ok end) = (k n : ℕ) → IsFrom kf nf k n → IsRight table k n
  Says kf nf (Err (fault.Row k n)) = LeastFrom kf nf k n
  Says kf nf (Err fault.Memory) = Unit {0}

  abbrev Agrees : ℕ → ℕ → List Row → Type 0
  Agrees kf nf rows = (k n : ℕ) → IsFrom kf nf k n → table k n ≡ table_of rows k n

  -- where both rows were, nothing must stand any more
  free_by : (kf nf : ℕ) (parts : Parts) (k n : ℕ) → Stand kf nf parts → (IsFrom kf nf 2 0 → k ≡ 2 → n ≡ 0 → ⊥)
      → (IsFrom kf nf 3 0 → k ≡ 3 → n ≡ 0 → ⊥) → IsFrom kf nf k n → MustStand k n → ⊥
  free_by kf nf parts k n stand queue meta from must = elim must.0 [
    | inl two ↦ queue (subst (λ (x : ℕ). IsFrom kf nf x 0) two (subst (IsFrom kf nf k) must.1 from)) two must.1
    | inr three ↦ meta (subst (λ (x : ℕ). IsFrom kf nf x 0) three (subst (IsFrom kf nf k) must.1 from)) three must.1
  ]

  -- ---- no row is left

  ended : (kf nf : ℕ) (parts : Parts) → Agrees kf nf [] → Stand kf nf parts → Says kf nf (completed parts)
  ended kf nf parts agrees stand = by (is_none parts.pending) refl (is_none parts.meta) refl
    where
      total : Bool → Bool → Result Parts RowFault
      total a b = if a then Err (fault.Row 2 0) else if b then Err (fault.Row 3 0) else Ok parts

      by : (a : Bool) → is_none parts.pending ≡ a → (b : Bool) → is_none parts.meta ≡ b → Says kf nf (total a b)
      by true none b meta = record {
        bad = wrong_none table 2 0 (agrees 2 0 (stand.queue none)) (inl refl, refl);
        before = λ kt nt from sooner. right_none table kt nt (agrees kt nt from) (free_by kf nf parts kt nt stand
            (λ _ two zero. elim sooner [
              | inl less ↦ omega (arith, less, two)
              | inr level
                  ↦ (let less = level.1 in omega (arith, less))
            ])
            (λ _ three zero. elim sooner [
              | inl less ↦ omega (arith, less, three)
              | inr level
                  ↦ (let same = level.0 in omega (arith, same, three))
            ]) from);
      }
      by false some true none = record {
        bad = wrong_none table 3 0 (agrees 3 0 (stand.meta none)) (inr refl, refl);
        before = λ kt nt from sooner. right_none table kt nt (agrees kt nt from) (free_by kf nf parts kt nt stand
            (λ at _ _. stand.past_queue some at)
            (λ _ three zero. elim sooner [
              | inl less ↦ omega (arith, less, three)
              | inr level
                  ↦ (let less = level.1 in omega (arith, less))
            ]) from);
      }
      by false some false there = λ k n from. right_none table k n (agrees k n from)
          (free_by kf nf parts k n stand (λ at _ _. stand.past_queue some at) (λ at _ _. stand.past_meta there at)
          from)

  -- ---- one row more

  module _ (kf nf : ℕ) (parts : Parts) (r : Row) (rows : List Row) (body : List ℕ) (stands : r.body ≡ Some body)
      (are : IsBytes body)
      (comes : ComesBefore r rows) (here : IsFrom kf nf r.kind r.number) (agrees : Agrees kf nf (r ∷ rows))
      (stand : Stand kf nf parts) where
    there : table r.kind r.number ≡ Some body
    there = agrees r.kind r.number here ∙ first_stands r rows comes ∙ stands

    -- nothing stands before the row
    gap : (k n : ℕ) → IsFrom kf nf k n → IsSooner k n r.kind r.number → table k n ≡ None
    gap k n from sooner = agrees k n from ∙ none_below r.kind r.number (r ∷ rows) k n (from_this r rows comes)
        (not_sooner k n r.kind r.number sooner)

    -- and nothing must, where the row is in place
    gap_right : (is_none parts.pending && is_behind 2 r) ≡ false → (is_none parts.meta && is_behind 3 r) ≡ false
        → (k n : ℕ) → IsFrom kf nf k n → IsSooner k n r.kind r.number → IsRight table k n
    gap_right queue meta k n from sooner = right_none table k n (gap k n from sooner) (free_by kf nf parts k n stand
        (λ at two zero. let behind = behind_is 2 r
        (subst (λ (x : ℕ). IsSooner x 0 r.kind r.number) two
        (subst (λ (x : ℕ). IsSooner k x r.kind r.number) zero sooner)) in
        elim_none (is_none parts.pending) refl behind queue (λ some. stand.past_queue some at))
        (λ at three zero. let behind = behind_is 3 r
        (subst (λ (x : ℕ). IsSooner x 0 r.kind r.number) three
        (subst (λ (x : ℕ). IsSooner k x r.kind r.number) zero sooner)) in
        elim_none (is_none parts.meta) refl behind meta (λ some. stand.past_meta some at)) from)
      where
        elim_none : {P : Bool} → (a : Bool) → {b : Bool} → P ≡ a → b ≡ true → (P && b) ≡ false → (P ≡ false → ⊥) → ⊥
        elim_none {P = P} true {b = b} none behind fine never = clash (P && b) (λ i. none i && behind i) fine
        elim_none false some behind fine never = never some

    -- what is told of what there is then
    next_stand : (is_none parts.pending && is_behind 2 r) ≡ false → (is_none parts.meta && is_behind 3 r) ≡ false
        → (more : Parts) → Takes schema parts r body more → Stand r.kind (suc r.number) more
    next_stand queue meta more takes = by takes
      where
        back : (kt nt : ℕ) → IsFrom r.kind (suc r.number) kt nt → IsFrom kf nf kt nt
        back kt nt = from_trans kf nf r.kind r.number kt nt here

        no_object : (kind : ℕ) → r.kind ≡ kind → 1 < kind → (n : ℕ) → IsFrom r.kind (suc r.number) 1 n → 0 < n
            → parts.last < n
        no_object kind same above n (inl less) some = absurd (omega (arith, less, same, above))
        no_object kind same above n (inr level) some = absurd (let one = level.0 in omega (arith, one, same, above))

        queue_behind : (kind : ℕ) → r.kind ≡ kind → 2 < kind → is_none parts.pending ≡ true → ⊥
        queue_behind kind same above none = clash (is_none parts.pending && is_behind 2 r)
            (λ i. none i && behind_is 2 r (inl (omega (arith, same, above))) i) queue

        meta_behind : (kind : ℕ) → r.kind ≡ kind → 3 < kind → is_none parts.meta ≡ true → ⊥
        meta_behind kind same above none = clash (is_none parts.meta && is_behind 3 r)
            (λ i. none i && behind_is 3 r (inl (omega (arith, same, above))) i) meta

        by : Takes schema parts r body more → Stand r.kind (suc r.number) more
        by (takes_object kind above below o is same) = subst (Stand r.kind (suc r.number)) (sym same) (record {
          last = λ n from some. elim from [
            | inl less ↦ absurd (omega (arith, less, kind))
            | inr level ↦ (let most = level.1 in omega (arith, most))
          ];
          queue = λ none. inl (omega (arith, kind));
          past_queue = λ some at. stand.past_queue some (back 2 0 at);
          meta = λ none. inl (omega (arith, kind));
          past_meta = λ some at. stand.past_meta some (back 3 0 at);
        })
        by (takes_queue kind number pending s same) = subst (Stand r.kind (suc r.number)) (sym same) (record {
          last = no_object 2 kind (omega arith);
          queue = λ none. absurd cc;
          past_queue = λ some at. elim at [
            | inl less ↦ omega (arith, less, kind)
            | inr level ↦ (let most = level.1 in omega (arith, most))
          ];
          meta = λ none. inl (omega (arith, kind));
          past_meta = λ some at. stand.past_meta some (back 3 0 at);
        })
        by (takes_meta kind number meta s same) = subst (Stand r.kind (suc r.number)) (sym same) (record {
          last = no_object 3 kind (omega arith);
          queue = λ none. absurd (queue_behind 3 kind (omega arith) none);
          past_queue = λ some at. stand.past_queue some (back 2 0 at);
          meta = λ none. absurd cc;
          past_meta = λ some at. elim at [
            | inl less ↦ omega (arith, less, kind)
            | inr level ↦ (let most = level.1 in omega (arith, most))
          ];
        })
        by (takes_record kind below read s same) = subst (Stand r.kind (suc r.number)) (sym same) (record {
          last = no_object 4 kind (omega arith);
          queue = λ none. absurd (queue_behind 4 kind (omega arith) none);
          past_queue = λ some at. stand.past_queue some (back 2 0 at);
          meta = λ none. absurd (meta_behind 4 kind (omega arith) none);
          past_meta = λ some at. stand.past_meta some (back 3 0 at);
        })

    -- what is told of the rows after is told of these
    widen : (is_none parts.pending && is_behind 2 r) ≡ false → (is_none parts.meta && is_behind 3 r) ≡ false
        → IsForm table r.kind r.number body → (result : Result Parts RowFault) → Says r.kind (suc r.number) result
        → Says kf nf result
    widen queue meta form result says = by result says
      where
        right : (k n : ℕ) → IsFrom kf nf k n → (IsFrom r.kind (suc r.number) k n → IsRight table k n)
            → IsRight table k n
        right k n from later = elim (split k n r.kind r.number) [
          | inl sooner ↦ gap_right queue meta k n from sooner
          | inr other ↦ elim other [
            | inl at ↦ subst (λ (x : ℕ). IsRight table x n) at.0
                (subst (IsRight table r.kind) at.1 (right_some table r.kind r.number body there form))
            | inr behind ↦ later behind
          ]
        ]

        by : (result : Result Parts RowFault) → Says r.kind (suc r.number) result → Says kf nf result
        by (Ok end) says = λ k n from. right k n from (says k n)
        by (Err (fault.Row k n)) says = record {
          bad = says.bad;
          before = λ kt nt from sooner.
              right kt nt from (λ behind. says.before kt nt behind sooner);
        }
        by (Err fault.Memory) says = tt

    agrees_next : Agrees r.kind (suc r.number) rows
    agrees_next k n from = agrees k n (from_trans kf nf r.kind r.number k n here from)
        ∙ other_row k n r rows (not_of k n r (λ kind number. elim from [
          | inl less ↦ omega (arith, less, kind)
          | inr level ↦ (let most = level.1 in omega (arith, most, number))
        ]))

    one_more : ((more : Parts) → Stand r.kind (suc r.number) more → Says r.kind (suc r.number)
        (with_rows schema more rows >>= completed)) → Says kf nf (with_rows schema parts (r ∷ rows) >>= completed)
    unfolding with_rows with_row in_place
    one_more again = by (is_none parts.pending && is_behind 2 r) refl (is_none parts.meta && is_behind 3 r) refl
        (with_any schema parts r) refl (any_placed schema parts r)
      where
        fits : Bool → Bool → Result (Unit {0}) RowFault
        fits a b = if a then Err (fault.Row 2 0) else if b then Err (fault.Row 3 0) else Ok tt

        total : Bool → Bool → Result Parts RowFault → Result Parts RowFault
        total a b taken = ((fits a b >>= λ _. taken) >>= λ more. with_rows schema more rows) >>= completed

        two_sooner : (kt nt : ℕ) → IsSooner kt nt 2 0 → IsSooner 2 0 r.kind r.number → IsSooner kt nt r.kind r.number
        two_sooner kt nt (inl a) (inl b) = inl (omega (arith, a, b))
        two_sooner kt nt (inl a) (inr b) = inl (let same = b.0 in omega (arith, a, same))
        two_sooner kt nt (inr a) b = absurd (let less = a.1 in omega (arith, less))

        three_sooner : (kt nt : ℕ) → IsSooner kt nt 3 0 → IsSooner 3 0 r.kind r.number → IsSooner kt nt r.kind r.number
        three_sooner kt nt (inl a) (inl b) = inl (omega (arith, a, b))
        three_sooner kt nt (inl a) (inr b) = inl (let same = b.0 in omega (arith, a, same))
        three_sooner kt nt (inr a) b = absurd (let less = a.1 in omega (arith, less))

        by : (a : Bool) → (is_none parts.pending && is_behind 2 r) ≡ a → (b : Bool)
            → (is_none parts.meta && is_behind 3 r) ≡ b → (taken : Result Parts RowFault) → with_any schema parts r
            ≡ taken → IsPlacedAt r taken → Says kf nf (total a b taken)
        by true queue b meta taken is placed =
            let parts' = and_parts (is_none parts.pending) (is_behind 2 r) queue in
            let sooner = behind_sooner 2 r parts'.1 in
            record {
              bad = wrong_none table 2 0 (gap 2 0 (stand.queue parts'.0) sooner) (inl refl, refl);
              before = λ kt nt from less. right_none table kt nt (gap kt nt from (two_sooner kt nt less sooner))
                  (free_by kf nf parts kt nt stand
                  (λ _ two zero. elim less [
                    | inl low ↦ omega (arith, low, two)
                    | inr level
                        ↦ (let low = level.1 in omega (arith, low))
                  ])
                  (λ _ three zero. elim less [
                    | inl low ↦ omega (arith, low, three)
                    | inr level
                        ↦ (let same = level.0 in omega (arith, same, three))
                  ]) from);
            }
        by false queue true meta taken is placed =
            let parts' = and_parts (is_none parts.meta) (is_behind 3 r) meta in
            let sooner = behind_sooner 3 r parts'.1 in
            let behind : is_behind 2 r ≡ true
            = behind_is 2 r (elim sooner [
              | inl low ↦ inl (omega (arith, low))
              | inr level
                  ↦ inl (let same = level.0 in omega (arith, same))
            ]) in
            let some : is_none parts.pending ≡ false = not_none (is_none parts.pending) behind queue in
            record {
              bad = wrong_none table 3 0 (gap 3 0 (stand.meta parts'.0) sooner) (inr refl, refl);
              before = λ kt nt from less. right_none table kt nt (gap kt nt from (three_sooner kt nt less sooner))
                  (free_by kf nf parts kt nt stand
                  (λ at _ _. stand.past_queue some at)
                  (λ _ three zero. elim less [
                    | inl low ↦ omega (arith, low, three)
                    | inr level
                        ↦ (let low = level.1 in omega (arith, low))
                  ]) from);
            }
          where
            not_none : (a : Bool) → is_behind 2 r ≡ true → (a && is_behind 2 r) ≡ false → a ≡ false
            not_none true behind fine = clash (is_behind 2 r) behind fine
            not_none false behind fine = refl
        by false queue false meta (Ok more) is placed =
            let takes = any_takes schema parts r body stands are more is in
            widen queue meta (takes_form table schema knows parts more r body takes)
            (with_rows schema more rows >>= completed) (again more (next_stand queue meta more takes))
        by false queue false meta (Err (fault.Row k n)) is placed = record {
          bad = λ right.
              let at : IsRight table r.kind r.number = subst (λ (x : ℕ). IsRight table x r.number) placed.0
              (subst (IsRight table k) placed.1 right) in
              let given = form_given table schema knows parts r body stands
              (λ kind some. stand.last r.number (subst (λ (x : ℕ). IsFrom kf nf x r.number) kind here) some)
              (form_there table r.kind r.number body there at) in
              let both : Ok given.0 ≡ Err (fault.Row k n) = sym given.1 ∙ is in cc both;
          before = λ kt nt from less. gap_right queue meta kt nt from
              (subst (λ (x : ℕ). IsSooner kt nt x r.number) placed.0 (subst (IsSooner kt nt k) placed.1 less));
        }
        by false queue false meta (Err fault.Memory) is placed = tt

  some_is : (stands : Option (List ℕ)) → IsSome stands → IfSome stands IsBytes → (body : List ℕ)
      × (stands ≡ Some body) × IsBytes body
  some_is None is are = absurd cc
  some_is (Some body) is are = (body, refl, are)

  folded : (rows : List Row) (kf nf : ℕ) (parts : Parts) → AreListed rows → AllByRecursion HasBytes rows
      → RowsFrom kf nf rows → Agrees kf nf rows → Stand kf nf parts
      → Says kf nf (with_rows schema parts rows >>= completed)
  unfolding with_rows
  folded [] kf nf parts listed bytes from agrees stand = ended kf nf parts agrees stand
  folded (r ∷ rows) kf nf parts listed bytes from agrees stand =
      let body = some_is r.body listed.0 bytes.0 in
      one_more kf nf parts r rows body.0 body.1 body.2 listed.1 from.0 agrees stand
      (λ more next. folded rows r.kind (suc r.number) more listed.2 bytes.1 (from_next r rows listed.1)
      (agrees_next kf nf parts r rows body.0 body.1 body.2 listed.1 from.0 agrees stand) next)

-- what taking in says of all rows
abbrev pub TakingSays : Table → Result Parts RowFault → Type 0
TakingSays table (Ok end) = AreRight table
TakingSays table (Err (fault.Row k n)) = IsLeastBad table k n
TakingSays table (Err fault.Memory) = Unit {0}

any_from : (k n : ℕ) → IsFrom 0 0 k n
any_from k n = elim (cases_lt 0 k) [
  | inl more ↦ inl more
  | inr none ↦ inr (omega (arith, none), omega arith)
]

all_from : (rows : List Row) → RowsFrom 0 0 rows
all_from [] = tt
all_from (r ∷ rows) = (any_from r.kind r.number, all_from rows)

pub taking_says : (rows : List Row) (schema : Option (List SchemaRecord)) → Knows (table_of rows) schema
    → AreListed rows → AllByRecursion HasBytes rows → TakingSays (table_of rows)
    (with_rows schema no_parts rows >>= completed)
taking_says rows schema knows listed bytes = by (with_rows schema no_parts rows >>= completed)
    (folded (table_of rows) schema knows rows 0 0 no_parts listed bytes (all_from rows) (λ k n from. refl) start)
  where
    start : Stand 0 0 no_parts
    start = record {
      last = λ n from some. some;
      queue = λ none. any_from 2 0;
      past_queue = λ some at. absurd cc;
      meta = λ none. any_from 3 0;
      past_meta = λ some at. absurd cc;
    }

    by : (result : Result Parts RowFault) → Says (table_of rows) schema knows 0 0 result → TakingSays (table_of rows)
        result
    by (Ok end) says = λ k n. says k n (any_from k n)
    by (Err (fault.Row k n)) says = record
        { bad = says.bad; before = λ kt nt sooner. says.before kt nt (any_from kt nt) sooner }
    by (Err fault.Memory) says = tt
