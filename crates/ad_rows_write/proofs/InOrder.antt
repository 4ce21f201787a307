-- Rows that are listed kind after kind, and what stands where in their table.
use Rattle.std.proofs.Common.{◌≡◌, ◌∙◌, inl, inr, ℕ, zero, suc, ◌+◌, ◌<◌, ◌≤◌, Bool, true, false, ◌==◌, ◌&&◌}
use Rattle.std.proofs.Common.{if◌then◌else◌, cond, List, [], ◌∷◌, ◌++◌, length, map, Option, Some, None}
use Rattle.std.proofs.Common.{is_some, refl, sym, ap, subst, arith, append_assoc}
use Rattle.std.specs.Prelude.{slice_get, MatchOption, IsSome}
use Rattle.std.specs.List.{AllByRecursion}
use Rattle.std.proofs.lemmas.List.{append-nil}
use Rattle.std.proofs.lemmas.Bool.{eqb-true, ne_eqb, eq-eqb}
use Rattle.row_store.specs.declared.row.Row.{Row}
use Rattle.row_store.specs.Table.{is_of, after_rows, ComesBefore, AreListed}
use Rattle.row_store.proofs.Tables.{none_after}
use Rattle.ad_dir_model.specs.Object.{Object}
use Rattle.ad_dir_model.specs.Objects.{RiseAbove, numbers, object_of, object_at, is_live}
use Rattle.ad_dir_model.proofs.Finding.{of-live}
use Rattle.ad_rows_write.specs.Rows.{HasBody}
use Rattle.ad_rows_write.specs.Listing.{Adds, IsRowAt, AreRowsAt, objects_at, counted}

-- ---- one row more

at_push : {A : Type 0} (kind : ℕ) (Spells : A → List ℕ → Type 0) (pairs : List (ℕ × A)) (pair : ℕ × A)
    (rows : List Row) (row : Row) → AreRowsAt kind Spells pairs rows → IsRowAt kind Spells pair row
    → AreRowsAt kind Spells (pairs ++ pair ∷ []) (rows ++ row ∷ [])
at_push kind Spells [] pair rows row are is
    = subst (λ (l : List Row). AreRowsAt kind Spells (pair ∷ []) (l ++ row ∷ [])) (sym are) (is, refl)
at_push kind Spells (first ∷ pairs) pair [] row are is = absurd are
at_push kind Spells (first ∷ pairs) pair (r ∷ rows) row are is
    = (are.0, at_push kind Spells pairs pair rows row are.1 is)

pub adds_push : {A : Type 0} (kind : ℕ) (Spells : A → List ℕ → Type 0) (pairs more : List (ℕ × A)) (pair : ℕ × A)
    (old mid new : List Row) (row : Row) → pairs ++ pair ∷ [] ≡ more → Adds (AreRowsAt kind Spells pairs) old mid
    → IsRowAt kind Spells pair row → new ≡ mid ++ row ∷ []
    → Adds (AreRowsAt kind Spells more) old new
adds_push kind Spells pairs more pair old mid new row longer so_far is put =
    subst (λ (l : List (ℕ × _)). Adds (AreRowsAt kind Spells l) old new) longer (
      so_far.0 ++ row ∷ [],
      at_push kind Spells pairs pair so_far.0 row so_far.1 is,
      put ∙ ap (λ (l : List Row). l ++ row ∷ []) so_far.2 ∙ append_assoc old so_far.0 (row ∷ []),
    )

pub adds_none : {A : Type 0} (kind : ℕ) (Spells : A → List ℕ → Type 0) (old : List Row)
    → Adds (AreRowsAt kind Spells []) old old
adds_none kind Spells old = ([], refl, sym (append-nil old))

pub counted_push : {A : Type 0} (from : ℕ) (xs : List A) (x : A) → counted from xs ++ (from + length xs, x) ∷ []
    ≡ counted from (xs ++ x ∷ [])
counted_push from [] x = let same : from + 0 ≡ from = omega arith in ap (λ (n : ℕ). (n, x) ∷ []) same
counted_push from (first ∷ xs) x =
    let same : from + suc (length xs) ≡ suc from + length xs = omega arith in
    ap (λ (n : ℕ). (from, first) ∷ (counted (suc from) xs ++ (n, x) ∷ [])) same
    ∙ ap (λ (l : List (ℕ × _)). (from, first) ∷ l) (counted_push (suc from) xs x)

-- what was put after nothing is all
pub adds_all : (Are : List Row → Type 0) (old new : List Row) → old ≡ [] → Adds Are old new → Are new
adds_all Are old new none put = subst Are (sym (put.2 ∙ ap (λ (l : List Row). l ++ put.0) none)) put.1

-- ---- numbers that rise

abbrev RiseFrom : {A : Type 0} → ℕ → List (ℕ × A) → Type 0
RiseFrom least [] = Unit {0}
RiseFrom least (pair ∷ pairs) = (least ≤ pair.0) × RiseFrom (suc pair.0) pairs

pub objects_rise : (objects : List Object) (m : ℕ) (os : List Object) → RiseAbove m os
    → RiseFrom (suc m) (objects_at objects (numbers os))
unfolding numbers
objects_rise objects m [] rise = tt
objects_rise objects m (o ∷ os) rise = (
  let above : m < o.number = rise.0 in omega arith,
  objects_rise objects
      o.number os rise.1,
)

pub counted_rise : {A : Type 0} (from : ℕ) (xs : List A) → RiseFrom from (counted from xs)
counted_rise from [] = tt
counted_rise from (x ∷ xs) = (omega arith, counted_rise (suc from) xs)

comes : {A : Type 0} (kind : ℕ) (Spells : A → List ℕ → Type 0) (row : Row) (least : ℕ) (pairs : List (ℕ × A))
    (rows : List Row) → row.kind ≡ kind → row.number < least → RiseFrom least pairs → AreRowsAt kind Spells pairs rows
    → ComesBefore row rows
comes kind Spells row least [] rows of below rise are = subst (ComesBefore row) (sym are) tt
comes kind Spells row least (pair ∷ pairs) [] of below rise are = absurd are
comes kind Spells row least (pair ∷ pairs) (next ∷ rows) of below rise are =
    let from : least ≤ pair.0 = rise.0 in
    let number : next.number ≡ pair.0 = are.0.1 in (
      inr (of ∙ sym are.0.0, omega (arith, from, number, below)),
      comes kind Spells row (suc pair.0) pairs rows of
          (omega (arith, from, below)) rise.1 are.1,
    )

pub has_some : (Spells : List ℕ → Type 0) (stands : Option (List ℕ)) → HasBody Spells stands → IsSome stands
has_some Spells stands has = subst IsSome (sym has.1) refl

pub listed_at : {A : Type 0} (kind : ℕ) (Spells : A → List ℕ → Type 0) (least : ℕ) (pairs : List (ℕ × A))
    (rows : List Row) → RiseFrom least pairs → AreRowsAt kind Spells pairs rows → AreListed rows
listed_at kind Spells least [] rows rise are = subst AreListed (sym are) tt
listed_at kind Spells least (pair ∷ pairs) [] rise are = absurd are
listed_at kind Spells least (pair ∷ pairs) (row ∷ rows) rise are =
    let number : row.number ≡ pair.0 = are.0.1 in (
      has_some (Spells pair.1) row.body are.0.2,
      comes kind Spells row (suc pair.0) pairs rows are.0.0 (omega (arith, number)) rise.1 are.1,
      listed_at kind Spells (suc pair.0) pairs rows rise.1 are.1,
    )

-- ---- what stands where

-- the value of a number
abbrev value_at : {A : Type 0} → ℕ → List (ℕ × A) → Option A
value_at n [] = None
value_at n (pair ∷ pairs) = if pair.0 == n then Some pair.1 else value_at n pairs

-- nothing of another kind
pub off_kind : {A : Type 0} (kind : ℕ) (Spells : A → List ℕ → Type 0) (pairs : List (ℕ × A)) (rows : List Row) (k n : ℕ)
    (before : Option (List ℕ)) → (kind ≡ k → ⊥) → AreRowsAt kind Spells pairs rows → after_rows rows k n before
    ≡ before
off_kind kind Spells [] rows k n before other are = ap (λ (l : List Row). after_rows l k n before) are
off_kind kind Spells (pair ∷ pairs) [] k n before other are = absurd are
off_kind kind Spells (pair ∷ pairs) (row ∷ rows) k n before other are =
    let off : (row.kind == k) ≡ false = ne_eqb row.kind k (λ same. other (sym are.0.0 ∙ same)) in
    ap (λ (b : Bool). after_rows rows k n (if b && (row.number == n) then row.body else before)) off
    ∙ off_kind kind Spells pairs rows k n before other are.1

abbrev pub ShowsAfter : {A : Type 0} → (A → List ℕ → Type 0) → Option A → Option (List ℕ) → Option (List ℕ) → Type 0
ShowsAfter Spells found before after = MatchOption found (after ≡ before) (λ x. HasBody (Spells x) after)

pub at_pairs : {A : Type 0} (kind : ℕ) (Spells : A → List ℕ → Type 0) (least : ℕ) (pairs : List (ℕ × A))
    (rows : List Row) (n : ℕ) (before : Option (List ℕ)) → RiseFrom least pairs → AreRowsAt kind Spells pairs rows
    → ShowsAfter Spells (value_at n pairs) before (after_rows rows kind n before)
at_pairs kind Spells least [] rows n before rise are = ap (λ (l : List Row). after_rows l kind n before) are
at_pairs kind Spells least (pair ∷ pairs) [] n before rise are = absurd are
at_pairs {A = A} kind Spells least (pair ∷ pairs) (row ∷ rows) n before rise are =
    by (pair.0 == n) refl (at_pairs kind Spells (suc pair.0) pairs rows n before rise.1 are.1)
  where
    is : is_of kind n row ≡ (pair.0 == n)
    is = (λ i. (are.0.0 i == kind) && (are.0.1 i == n)) ∙ ap (λ (b : Bool). b && (pair.0 == n)) (eq-eqb kind kind refl)

    number : row.number ≡ pair.0
    number = are.0.1

    by : (b : Bool) → (pair.0 == n) ≡ b → ShowsAfter Spells (value_at n pairs) before (after_rows rows kind n before)
        → ShowsAfter Spells (value_at n (pair ∷ pairs)) before (after_rows (row ∷ rows) kind n before)
    by true e rest =
        let kept : after_rows (row ∷ rows) kind n before ≡ row.body =
        ap (λ (b : Bool). after_rows rows kind n (if b then row.body else before)) (is ∙ e)
        ∙ none_after row rows kind n row.body (is ∙ e)
        (comes kind Spells row (suc pair.0) pairs rows are.0.0 (omega (arith, number)) rise.1 are.1) in
        subst (λ (found : Option A). ShowsAfter Spells found before (after_rows (row ∷ rows) kind n before))
        (sym (ap (λ (b : Bool). if b then Some pair.1 else value_at n pairs) e))
        (subst (HasBody (Spells pair.1)) (sym kept) are.0.2)
    by false e rest =
        subst (λ (found : Option A). ShowsAfter Spells found before (after_rows (row ∷ rows) kind n before))
        (sym (ap (λ (b : Bool). if b then Some pair.1 else value_at n pairs) e))
        (subst (ShowsAfter Spells (value_at n pairs) before)
        (sym (ap (λ (b : Bool). after_rows rows kind n (if b then row.body else before)) (is ∙ e))) rest)

-- ---- the values of the two lists

live_at : (f : ℕ → Object) (os : List Object) (n : ℕ) → value_at n (map (λ m. (m, f m)) (numbers os))
    ≡ (if is_live os n then Some (f n) else None)
unfolding numbers object_of
live_at f [] n = refl
live_at f (o ∷ os) n = by (o.number == n) refl (live_at f os n)
  where
    by : (b : Bool) → (o.number == n) ≡ b → value_at n (map (λ m. (m, f m)) (numbers os))
        ≡ (if is_live os n then Some (f n) else None) → value_at n (map (λ m. (m, f m)) (numbers (o ∷ os)))
        ≡ (if is_live (o ∷ os) n then Some (f n) else None)
    by true e rest =
        ap (λ (b : Bool). if b then Some (f o.number) else value_at n (map (λ m. (m, f m)) (numbers os))) e
        ∙ ap (λ (m : ℕ). Some (f m)) (eqb-true o.number n e)
        ∙ sym (ap (λ (b : Bool). if is_some (cond b (Some o) (object_of os n)) then Some (f n) else None) e)
    by false e rest =
        ap (λ (b : Bool). if b then Some (f o.number) else value_at n (map (λ m. (m, f m)) (numbers os))) e
        ∙ rest
        ∙ sym (ap (λ (b : Bool). if is_some (cond b (Some o) (object_of os n)) then Some (f n) else None) e)

none_live : (found : Option Object) → is_some found ≡ false → found ≡ None
none_live None e = refl
none_live (Some o) e = absurd cc

pub object_there : (objects : List Object) (n : ℕ)
    → value_at n (objects_at objects (numbers objects)) ≡ object_of objects n
object_there objects n = live_at (object_at objects) objects n ∙ by (is_live objects n) refl
  where
    by : (b : Bool) → is_live objects n ≡ b → (if is_live objects n then Some (object_at objects n) else None)
        ≡ object_of objects n
    by true e = ap (λ (b : Bool). if b then Some (object_at objects n) else None) e ∙ sym (of-live objects n e)
    by false e = ap (λ (b : Bool). if b then Some (object_at objects n) else None) e
        ∙ sym (none_live (object_of objects n) e)

counted_at : {A : Type 0} (from : ℕ) (xs : List A) (i : ℕ) → value_at (from + i) (counted from xs) ≡ slice_get xs i
counted_at from [] i = refl
counted_at from (x ∷ xs) zero =
    let here : (from == (from + 0)) ≡ true = eq-eqb from (from + 0) (omega arith) in
    ap (λ (b : Bool). if b then Some x else value_at (from + 0) (counted (suc from) xs)) here
counted_at from (x ∷ xs) (suc i) =
    let other : (from == (from + suc i)) ≡ false = ne_eqb from (from + suc i) (λ same. omega (arith, same)) in
    let same : from + suc i ≡ suc from + i = omega arith in
    ap (λ (b : Bool). if b then Some x else value_at (from + suc i) (counted (suc from) xs)) other
    ∙ ap (λ (n : ℕ). value_at n (counted (suc from) xs)) same ∙ counted_at (suc from) xs i

pub counted_here : {A : Type 0} (xs : List A) (i : ℕ) → value_at i (counted 0 xs) ≡ slice_get xs i
counted_here xs i = let same : i ≡ 0 + i = omega arith in ap (λ (n : ℕ). value_at n (counted 0 xs)) same
    ∙ counted_at 0 xs i

-- ---- one kind before another

abbrev pub IsAfter : ℕ → List Row → Type 0
IsAfter k rows = AllByRecursion (λ (row : Row). k < row.kind) rows

pub after_at : {A : Type 0} (k kind : ℕ) (Spells : A → List ℕ → Type 0) (pairs : List (ℕ × A)) (rows others : List Row)
    → k < kind → AreRowsAt kind Spells pairs rows → IsAfter k others → IsAfter k (rows ++ others)
after_at k kind Spells [] rows others less are after = subst (λ (l : List Row). IsAfter k (l ++ others)) (sym are) after
after_at k kind Spells (pair ∷ pairs) [] others less are after = absurd are
after_at k kind Spells (pair ∷ pairs) (row ∷ rows) others less are after
    = (
      let of : row.kind ≡ kind = are.0.0 in omega (arith, of, less),
      after_at k kind Spells pairs rows others less
          are.1 after,
    )

pub comes_all : (row : Row) (others : List Row) → IsAfter row.kind others → ComesBefore row others
comes_all row [] after = tt
comes_all row (next ∷ others) after = (inl after.0, comes_all row others after.1)

comes_both : (row : Row) (rows others : List Row) → ComesBefore row rows → ComesBefore row others
    → ComesBefore row (rows ++ others)
comes_both row [] others first second = second
comes_both row (next ∷ rows) others first second = (first.0, comes_both row rows others first.1 second)

pub listed_both : {A : Type 0} (kind : ℕ) (Spells : A → List ℕ → Type 0) (least : ℕ) (pairs : List (ℕ × A))
    (rows others : List Row) → RiseFrom least pairs → AreRowsAt kind Spells pairs rows → IsAfter kind others
    → AreListed others → AreListed (rows ++ others)
listed_both kind Spells least [] rows others rise are after listed = subst (λ (l : List Row). AreListed (l ++ others))
    (sym are) listed
listed_both kind Spells least (pair ∷ pairs) [] others rise are after listed = absurd are
listed_both kind Spells least (pair ∷ pairs) (row ∷ rows) others rise are after listed =
    let number : row.number ≡ pair.0 = are.0.1 in (
      has_some (Spells pair.1) row.body are.0.2,
      comes_both row rows others (comes kind Spells row (suc pair.0) pairs rows are.0.0 (omega (arith, number)) rise.1
          are.1) (comes_all row others (subst (λ (k : ℕ). IsAfter k others) (sym are.0.0) after)),
      listed_both kind Spells (suc pair.0) pairs rows others rise.1 are.1 after listed,
    )
