-- Counts over lists of numbers and of pending entries.
use Rattle.std.proofs.Common.{◌≡◌, ℕ, ◌+◌, ◌*◌, ◌≤◌, Bool, true, false, List, [], ◌∷◌, length, inl, inr, refl, sym}
use Rattle.std.proofs.Common.{ap, arith, ◌∙◌}
use Rattle.std.specs.Prelude.{nat_eq}
use Rattle.std.specs.List.{AllByRecursion}
use Rattle.std.proofs.lemmas.Bool.{eqb-true, eqb-false, ne_eqb, eq-eqb, cases_Bool, or_parts, false≢true}
use Rattle.prop_queue.specs.declared.pending.Pending.{Pending}
use Rattle.prop_queue.specs.Pending.{is_of, is_pending, AreDistinct}
use Rattle.ad_dir_model.specs.Object.{Object}
use Rattle.ad_dir_model.specs.Objects.{numbers, object_of, is_live}
use Rattle.ad_dir_model.specs.Steps.{count}
use Rattle.ad_dir_model.proofs.TreeLaws.{bit}

-- ---- all numbers of the objects

live_more : (x : Object) (xs : List Object) (n : ℕ) → is_live xs n ≡ true → is_live (x ∷ xs) n ≡ true
unfolding object_of
live_more x xs n live =
    elim (cases_Bool (nat_eq x.number n)) [
      | inl same ↦ rw same refl
      | inr apart ↦ rw apart live
    ]

live_first : (x : Object) (xs : List Object) → is_live (x ∷ xs) x.number ≡ true
unfolding object_of
live_first x xs = rw (eq-eqb x.number x.number refl) refl

pub all_numbers : (P : ℕ → Type 0) (os : List Object) → ((n : ℕ) → is_live os n ≡ true → P n)
    → AllByRecursion P (numbers os)
unfolding numbers
all_numbers P [] each = tt
all_numbers P (x ∷ xs) each = (
  each x.number (live_first x xs),
  all_numbers P xs
      (λ n live. each n (live_more x xs n live)),
)

-- ---- counts

pub count_within : (f g h e : ℕ → Bool) (ns : List ℕ)
    → AllByRecursion (λ (n : ℕ). bit (f n) + (bit (g n) + bit (h n)) ≤ bit (e n)) ns → count f ns
    + (count g ns + count h ns) ≤ count e ns
unfolding count
count_within f g h e [] all = omega arith
count_within f g h e (n ∷ ns) all =
    let here : bit (f n) + (bit (g n) + bit (h n)) ≤ bit (e n) = all.0 in
    let rest : count f ns + (count g ns + count h ns) ≤ count e ns = count_within f g h e ns all.1 in
    omega arith

counts_one : (c : ℕ) (os : List Object) → is_live os c ≡ true → 1 ≤ count (λ (n : ℕ). nat_eq n c) (numbers os)
unfolding count numbers object_of
counts_one c [] live = absurd (false≢true live)
counts_one c (x ∷ xs) live =
    elim (cases_Bool (nat_eq x.number c)) [
      | inl same ↦ rw same (omega arith)
      | inr apart ↦
          let rest : 1 ≤ count (λ (n : ℕ). nat_eq n c) (numbers xs) = counts_one c xs (rw apart at live) in
          rw apart (omega arith)
    ]

-- a live number is counted
pub count_live : (c : ℕ) (os : List Object) → is_live os c ≡ true → 1 ≤ count (λ (n : ℕ). nat_eq n c) (numbers os)
count_live c os live = counts_one c os live

-- ---- sums, over numbers and over entries

unfoldable pub sum_numbers : (ℕ → ℕ) → List ℕ → ℕ
sum_numbers f [] = 0
sum_numbers f (n ∷ ns) = f n + sum_numbers f ns

unfoldable pub sum_entries : (Pending → ℕ) → List Pending → ℕ
sum_entries f [] = 0
sum_entries f (e ∷ es) = f e + sum_entries f es

no_sum : (ns : List ℕ) → sum_numbers (λ (n : ℕ). 0) ns ≡ 0
unfolding sum_numbers
no_sum [] = refl
no_sum (n ∷ ns) = let rest = no_sum ns in omega (arith, rest)

pub sum_add : (f g : ℕ → ℕ) (ns : List ℕ) → sum_numbers (λ (n : ℕ). f n + g n) ns ≡ sum_numbers f ns + sum_numbers g ns
unfolding sum_numbers
sum_add f g [] = refl
sum_add f g (n ∷ ns) = let rest = sum_add f g ns in omega (arith, rest)

-- the order of the two sums doesn't matter
pub exchange : (share : Pending → ℕ → ℕ) (ns : List ℕ) (es : List Pending)
    → sum_entries (λ (e : Pending). sum_numbers (share e) ns) es
    ≡ sum_numbers (λ (n : ℕ). sum_entries (λ (e : Pending). share e n) es) ns
unfolding sum_entries
exchange share ns [] = sym (no_sum ns)
exchange share ns (e ∷ es) =
    ap (λ (k : ℕ). sum_numbers (share e) ns + k) (exchange share ns es)
    ∙ sym (sum_add (share e) (λ (n : ℕ). sum_entries (λ (x : Pending). share x n) es) ns)

pub sum_bounded : (f : ℕ → ℕ) (bound : ℕ) (ns : List ℕ) → AllByRecursion (λ (n : ℕ). f n ≤ bound) ns
    → sum_numbers f ns ≤ bound * length ns
unfolding sum_numbers
sum_bounded f bound [] all = omega arith
sum_bounded f bound (n ∷ ns) all =
    let here : f n ≤ bound = all.0 in
    let rest : sum_numbers f ns ≤ bound * length ns = sum_bounded f bound ns all.1 in
    omega arith

pub sum_entries_le : (f g : Pending → ℕ) (es : List Pending) → ((e : Pending) → f e ≤ g e) → sum_entries f es
    ≤ sum_entries g es
unfolding sum_entries
sum_entries_le f g [] each = omega arith
sum_entries_le f g (e ∷ es) each =
    let here : f e ≤ g e = each e in
    let rest : sum_entries f es ≤ sum_entries g es = sum_entries_le f g es each in
    omega arith

pub sum_entries_add : (f g : Pending → ℕ) (es : List Pending) → sum_entries (λ (e : Pending). f e + g e) es
    ≡ sum_entries f es + sum_entries g es
unfolding sum_entries
sum_entries_add f g [] = refl
sum_entries_add f g (e ∷ es) = let rest = sum_entries_add f g es in omega (arith, rest)

-- what holds of all numbers holds of those of a list
pub all_of : (P : ℕ → Type 0) (ns : List ℕ) → ((n : ℕ) → P n) → AllByRecursion P ns
all_of P [] each = tt
all_of P (n ∷ ns) each = (each n, all_of P ns each)

pub no_entries : (es : List Pending) → sum_entries (λ (e : Pending). 0) es ≡ 0
unfolding sum_entries
no_entries [] = refl
no_entries (e ∷ es) = let rest = no_entries es in omega (arith, rest)

-- a count is a sum
pub count_is : (test : ℕ → Bool) (ns : List ℕ) → count test ns ≡ sum_numbers (λ (n : ℕ). bit (test n)) ns
unfolding count sum_numbers
count_is test [] = refl
count_is test (n ∷ ns) = ap (λ (k : ℕ). bit (test n) + k) (count_is test ns)

-- ---- no parent is pending twice

pub not_pending_none : (n : ℕ) (es : List Pending) → is_pending n es ≡ false
    → sum_entries (λ (e : Pending). bit (nat_eq n e.parent)) es ≡ 0
unfolding sum_entries
not_pending_none n [] none = refl
not_pending_none n (e ∷ es) none =
    let parts = or_parts (is_of n e) (is_pending n es) none in
    let other : n ≡ e.parent → ⊥ = λ (same : n ≡ e.parent). eqb-false e.parent n parts.0 (sym same) in
    let rest : sum_entries (λ (x : Pending). bit (nat_eq n x.parent)) es ≡ 0 = not_pending_none n es parts.1 in
    rw (ne_eqb n e.parent other) (omega arith)

pub pending_once : (n : ℕ) (es : List Pending) → AreDistinct es
    → sum_entries (λ (e : Pending). bit (nat_eq n e.parent)) es ≤ 1
unfolding sum_entries
pending_once n [] distinct = omega arith
pending_once n (e ∷ es) distinct =
    elim (cases_Bool (nat_eq n e.parent)) [
      | inl same ↦
          let is : n ≡ e.parent = eqb-true n e.parent same in
          let none : sum_entries (λ (x : Pending). bit (nat_eq n x.parent)) es ≡ 0
          = not_pending_none n es (rw is distinct.0) in
          rw same (omega arith)
      | inr other ↦
          let rest : sum_entries (λ (x : Pending). bit (nat_eq n x.parent)) es ≤ 1 = pending_once n es distinct.1 in
          rw other (omega arith)
    ]
