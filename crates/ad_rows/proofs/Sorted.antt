-- Rows that are listed in order are told by their table.
use Rattle.std.proofs.Common.{◌≡◌, ◌∙◌, ◌⊎◌, inl, inr, ℕ, ◌<◌, Bool, true, false, if◌then◌else◌, List, [], ◌∷◌}
use Rattle.std.proofs.Common.{Option, Some, None, refl, sym, ap, subst, arith}
use Rattle.std.specs.Prelude.{IsSome}
use Rattle.std.proofs.lemmas.Bool.{and_parts, eqb-true}
use Rattle.std.proofs.lemmas.Option.{none-some}
use Rattle.std.proofs.lemmas.Bool.{eq-eqb}
use Rattle.row_store.specs.declared.row.Row.{Row}
use Rattle.row_store.specs.Table.{is_of, after_rows, table_of, ComesBefore, AreListed}
use Rattle.row_store.proofs.Tables.{none_after}

pub itself : (row : Row) → is_of row.kind row.number row ≡ true
itself row = rw (eq-eqb row.kind row.kind refl, eq-eqb row.number row.number refl) refl

pub key_of : (kind number : ℕ) (row : Row) → is_of kind number row ≡ true → (row.kind ≡ kind) × (row.number ≡ number)
key_of kind number row is = let two = and_parts _ _ is
    in (eqb-true row.kind kind two.0, eqb-true row.number number two.1)

-- what stands after a row comes after it
behind : (row : Row) (rows : List Row) (kind number : ℕ) (body : List ℕ) → ComesBefore row rows
    → after_rows rows kind number None ≡ Some body → (row.kind < kind) ⊎ ((row.kind ≡ kind) × (row.number < number))
behind row [] kind number body comes stands = absurd (none-some body stands)
behind row (next ∷ rows) kind number body comes stands = by (is_of kind number next) refl
    (behind row rows kind number body comes.1)
  where
    by : (b : Bool) → is_of kind number next ≡ b
        → (after_rows rows kind number None ≡ Some body → (row.kind < kind)
        ⊎ ((row.kind ≡ kind) × (row.number < number))) → (row.kind < kind)
        ⊎ ((row.kind ≡ kind) × (row.number < number))
    by true e later =
        let key = key_of kind number next e in
        elim comes.0 [
          | inl lower ↦ inl (subst (λ (k : ℕ). row.kind < k) key.0 lower)
          | inr same ↦ inr (same.0 ∙ key.0, subst (λ (n : ℕ). row.number < n) key.1 same.1)
        ]
    by false e later = later (sym (ap (λ (b : Bool). after_rows rows kind number (if b then next.body else None)) e)
        ∙ stands)

-- the first row stands at its place
pub first_stands : (row : Row) (rows : List Row) → ComesBefore row rows → table_of (row ∷ rows) row.kind row.number
    ≡ row.body
first_stands row rows comes =
    ap (λ (b : Bool). after_rows rows row.kind row.number (if b then row.body else None)) (itself row)
    ∙ none_after row rows row.kind row.number row.body (itself row) comes

some_is : (stands : Option (List ℕ)) → IsSome stands → (body : List ℕ) × (stands ≡ Some body)
some_is None is = absurd cc
some_is (Some body) is = (body, refl)

abbrev SameTables : List Row → List Row → Type 0
SameTables a b = (kind number : ℕ) → table_of a kind number ≡ table_of b kind number

nothing_is : (row : Row) (rows : List Row) → AreListed (row ∷ rows)
    → ((kind number : ℕ) → table_of (row ∷ rows) kind number ≡ None) → ⊥
nothing_is row rows listed none =
    let some = some_is row.body listed.0 in
    none-some some.0 (sym (none row.kind row.number) ∙ first_stands row rows listed.1 ∙ some.1)

-- where two lists have one table, their first rows have one place
one_place : (a b : Row) (as' bs : List Row) → AreListed (a ∷ as') → AreListed (b ∷ bs) → SameTables (a ∷ as') (b ∷ bs)
    → is_of a.kind a.number b ≡ true
one_place a b as' bs la lb same = by (is_of a.kind a.number b) refl (is_of b.kind b.number a) refl
  where
    by : (c : Bool) → is_of a.kind a.number b ≡ c → (d : Bool) → is_of b.kind b.number a ≡ d → is_of a.kind a.number b
        ≡ true
    by true e d f = e
    by false e true f = let key = key_of b.kind b.number a f in
        rw (eq-eqb b.kind a.kind (sym key.0), eq-eqb b.number a.number (sym key.1)) refl
    by false e false f =
        let some_a = some_is a.body la.0 in
        let some_b = some_is b.body lb.0 in
        let b_first = behind b bs a.kind a.number some_a.0 lb.1
        (sym (ap (λ (c : Bool). after_rows bs a.kind a.number (if c then b.body else None)) e)
        ∙ sym (same a.kind a.number) ∙ first_stands a as' la.1 ∙ some_a.1) in
        let a_first = behind a as' b.kind b.number some_b.0 la.1
        (sym (ap (λ (c : Bool). after_rows as' b.kind b.number (if c then a.body else None)) f)
        ∙ same b.kind b.number ∙ first_stands b bs lb.1 ∙ some_b.1) in
        absurd (elim b_first [
          | inl lower ↦ elim a_first [
            | inl higher ↦ omega (arith, lower, higher)
            | inr tied ↦ omega (arith, lower, tied.0)
          ]
          | inr level ↦ elim a_first [
            | inl higher ↦ omega (arith, level.0, higher)
            | inr tied ↦ omega (arith, level.1, tied.1)
          ]
        ])

-- after the first rows the tables are one as well
rest_same : (a b : Row) (as' bs : List Row) → ComesBefore a as' → ComesBefore b bs → a.kind ≡ b.kind → a.number
    ≡ b.number → SameTables (a ∷ as') (b ∷ bs) → SameTables as' bs
rest_same a b as' bs comes_a comes_b kinds numbers same kind number = by (is_of kind number a) refl
  where
    other : is_of kind number b ≡ is_of kind number a
    other = rw (kinds, numbers) refl

    by : (c : Bool) → is_of kind number a ≡ c → table_of as' kind number ≡ table_of bs kind number
    by true e = none_after a as' kind number None e comes_a ∙ sym (none_after b bs kind number None (other ∙ e) comes_b)
    by false e =
        sym (ap (λ (c : Bool). after_rows as' kind number (if c then a.body else None)) e) ∙ same kind number
        ∙ ap (λ (c : Bool). after_rows bs kind number (if c then b.body else None)) (other ∙ e)

pub same_rows : (a b : List Row) → AreListed a → AreListed b → SameTables a b → a ≡ b
same_rows [] [] la lb same = refl
same_rows [] (b ∷ bs) la lb same = absurd (nothing_is b bs lb (λ kind number. sym (same kind number)))
same_rows (a ∷ as') [] la lb same = absurd (nothing_is a as' la same)
same_rows (a ∷ as') (b ∷ bs) la lb same =
    let key = key_of a.kind a.number b (one_place a b as' bs la lb same) in
    let kinds : a.kind ≡ b.kind = sym key.0 in
    let numbers : a.number ≡ b.number = sym key.1 in
    let there : table_of (b ∷ bs) a.kind a.number ≡ b.body = (λ i. table_of (b ∷ bs) (kinds i) (numbers i))
    ∙ first_stands b bs lb.1 in
    let bodies : a.body ≡ b.body = sym (first_stands a as' la.1) ∙ same a.kind a.number ∙ there in
    let rest = same_rows as' bs la.2 lb.2 (rest_same a b as' bs la.1 lb.1 kinds numbers same) in
    (λ i. record { kind = kinds i; number = numbers i; body = bodies i } ∷ rest i)
