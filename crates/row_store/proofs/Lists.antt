-- The rows of a map, in order.
use Rattle.std.proofs.Common.{◌≡◌, ◌↔◌, ◌⊎◌, inl, inr, ℕ, ◌<◌, Bool, true, false, cond, if◌then◌else◌, List, [], ◌∷◌}
use Rattle.std.proofs.Common.{◌++◌, length, Option, Some, None, refl, sym, ap, ◌∙◌, arith, ◌&&◌, ◌==◌, nat_lt}
use Rattle.std.proofs.lemmas.Bool.{ltb-true}
use Rattle.std.specs.declared.cmp.Ordering.{Ordering}
use Rattle.std.specs.declared.cmp.Ordering.TheVariants.{Less, Equal, Greater}
use Rattle.std.specs.Ordering.{nat_cmp, ordering_then, is_eq}
use Rattle.std.proofs.Common.{rules, tests}
use Rattle.std.proofs.lemmas.Map.Lookups.{exact_unsigned}
use Rattle.std.specs.Cmp.{tied_then}
use Rattle.std.proofs.lemmas.List.{append-nil}
use Rattle.std.specs.Option.{IsSome}
use Rattle.std.specs.BTreeMap.{is_at}
use Rattle.std.specs.Map.{keys_of, lookup}
use Rattle.std.specs.List.{AllByRecursion}
use Rattle.std.specs.List.Sorted.{IsStrictlySortedBy}
use Rattle.row_store.specs.declared.row.Row.{Row}
use Rattle.row_store.specs.Left.{key_cmp, row_of, rows_of}
use Rattle.row_store.specs.Table.{is_of, after_rows, ComesBefore, AreListed}
use Rattle.row_store.proofs.Tables.{none_after}

-- what the answer of a comparison says
cmp_less : (x y : ℕ) → nat_cmp x y ≡ Less → x < y
cmp_less x y e = by (nat_lt x y) refl (x == y) refl
  where
    by : (b : Bool) → nat_lt x y ≡ b → (c : Bool) → (x == y) ≡ c → x < y
    by true lt c eq = ltb-true x y lt
    by false lt true eq = absurd (let is : cond false Less (cond true Equal Greater) ≡ Less
        = (λ i. cond (sym lt i) Less (cond (sym eq i) Equal Greater)) ∙ e in cc is)
    by false lt false eq = absurd (let is : cond false Less (cond false Equal Greater) ≡ Less
        = (λ i. cond (sym lt i) Less (cond (sym eq i) Equal Greater)) ∙ e in cc is)

cmp_equal : (x y : ℕ) → nat_cmp x y ≡ Equal → x ≡ y
cmp_equal x y e = exact_unsigned x y e

less_before : (x y : ℕ × ℕ) → key_cmp x y ≡ Less → (x.0 < y.0) ⊎ ((x.0 ≡ y.0) × (x.1 < y.1))
less_before x y e = by (nat_cmp x.0 y.0) refl
  where
    by : (o : Ordering) → nat_cmp x.0 y.0 ≡ o → (x.0 < y.0) ⊎ ((x.0 ≡ y.0) × (x.1 < y.1))
    by Less is = inl (cmp_less x.0 y.0 is)
    by Equal is = inr (
      cmp_equal x.0 y.0 is,
      cmp_less x.1 y.1
          (ap (λ (o : Ordering). ordering_then o (nat_cmp x.1 y.1)) (sym is) ∙ e),
    )
    by Greater is = absurd (let no : Greater ≡ Less = ap (λ (o : Ordering). ordering_then o (nat_cmp x.1 y.1))
        (sym is) ∙ e in cc no)

nat_is : (x y : ℕ) → is_eq (nat_cmp x y) ≡ (y == x)
nat_is x y = search (rules, tests)

eqb_turned : (x y : ℕ) → (x == y) ≡ (y == x)
eqb_turned x y = search (rules, tests)

key_is : (kind number : ℕ) (entry : (ℕ × ℕ) × List ℕ) → is_at (key_cmp (kind, number)) entry.0
    ≡ is_of kind number (row_of entry)
key_is kind number entry = sym (tied_then (nat_cmp kind entry.0.0) (nat_cmp number entry.0.1))
    ∙ (λ i. nat_is kind entry.0.0 i && nat_is number entry.0.1 i)

pub key_at : (kind number k n : ℕ) → is_at (key_cmp (kind, number)) (k, n) ≡ ((kind == k) && (number == n))
key_at kind number k n = sym (tied_then (nat_cmp kind k) (nat_cmp number n))
    ∙ (λ i. (nat_is kind k ∙ eqb_turned k kind) i && (nat_is number n ∙ eqb_turned n number) i)

comes_before : (entry : (ℕ × ℕ) × List ℕ) (entries : List ((ℕ × ℕ) × List ℕ))
    → AllByRecursion (λ y. key_cmp entry.0 y ≡ Less) (keys_of entries) → ComesBefore (row_of entry) (rows_of entries)
comes_before entry [] all = tt
comes_before entry (next ∷ entries) all = (less_before entry.0 next.0 all.0, comes_before entry entries all.1)

pub are_listed : (entries : List ((ℕ × ℕ) × List ℕ)) → IsStrictlySortedBy key_cmp (keys_of entries)
    → AreListed (rows_of entries)
unfolding IsStrictlySortedBy
are_listed [] sorted = tt
are_listed (entry ∷ entries) sorted = (refl, comes_before entry entries sorted.0, are_listed entries sorted.1)

first_or : (entry : (ℕ × ℕ) × List ℕ) (entries : List ((ℕ × ℕ) × List ℕ)) → ComesBefore (row_of entry)
    (rows_of entries) → (kind number : ℕ) → after_rows (rows_of entries) kind number None
    ≡ lookup (is_at (key_cmp (kind, number))) entries
    → after_rows (rows_of (entry ∷ entries)) kind number None ≡ lookup (is_at (key_cmp (kind, number)))
    (entry ∷ entries)
first_or entry entries comes kind number rest = by (is_of kind number (row_of entry)) refl
  where
    by : (b : Bool) → is_of kind number (row_of entry) ≡ b → after_rows (rows_of (entry ∷ entries)) kind number None
        ≡ lookup (is_at (key_cmp (kind, number))) (entry ∷ entries)
    by true e =
        ap (λ (b : Bool). after_rows (rows_of entries) kind number (if b then Some entry.1 else None)) e
        ∙ none_after (row_of entry) (rows_of entries) kind number (Some entry.1) e comes
        ∙ sym (ap (λ (b : Bool). cond b (Some entry.1) (lookup (is_at (key_cmp (kind, number))) entries))
        (key_is kind number entry ∙ e))
    by false e =
        ap (λ (b : Bool). after_rows (rows_of entries) kind number (if b then Some entry.1 else None)) e ∙ rest
        ∙ sym (ap (λ (b : Bool). cond b (Some entry.1) (lookup (is_at (key_cmp (kind, number))) entries))
        (key_is kind number entry ∙ e))

pub listed_table : (entries : List ((ℕ × ℕ) × List ℕ)) → AreListed (rows_of entries) → (kind number : ℕ)
    → after_rows (rows_of entries) kind number None ≡ lookup (is_at (key_cmp (kind, number))) entries
listed_table [] listed kind number = refl
listed_table (entry ∷ entries) listed kind number = first_or entry entries listed.1 kind number
    (listed_table entries listed.2 kind number)

nothing_left : (entries : List ((ℕ × ℕ) × List ℕ)) (first : Option ((ℕ × ℕ) × List ℕ))
    → (IsSome first ↔ (0 < length entries)) → first ≡ None → entries ≡ []
nothing_left [] first some none = refl
nothing_left (entry ∷ entries) first some none = let is_some : IsSome first = some.1 (omega arith) in cc (is_some, none)

-- all entries were taken
pub all_listed : (rows : List Row) (left entries : List ((ℕ × ℕ) × List ℕ)) (first : Option ((ℕ × ℕ) × List ℕ))
    → (IsSome first ↔ (0 < length left)) → first ≡ None → rows ++ rows_of left ≡ rows_of entries → rows
    ≡ rows_of entries
all_listed rows left entries first some none so_far =
    let empty : left ≡ [] = nothing_left left first some none in
    sym (append-nil rows) ∙ ap (λ (l : List ((ℕ × ℕ) × List ℕ)). rows ++ rows_of l) (sym empty) ∙ so_far
