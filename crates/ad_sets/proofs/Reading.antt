-- What is told of sets gives back who is granted.
use Rattle.std.proofs.Common.{◌≡◌, ◌∙◌, ℕ, zero, suc, ◌+◌, ◌<◌, ◌≤◌, inl, inr, Bool, true, false, ◌&&◌, ◌||◌, Option}
use Rattle.std.proofs.Common.{Some, None, List, [], ◌∷◌, ◌++◌, length, refl, sym, ap, subst, arith}
use Rattle.std.specs.Prelude.{◌==◌, if◌then◌else◌, slice_get}
use Rattle.std.specs.List.{list_any, AllByRecursion}
use Rattle.std.specs.Option.{option_map, option_map_or}
use Rattle.std.proofs.Math.Bool.{or-false}
use Rattle.std.proofs.lemmas.Bool.{cases_eq, eq-eqb, ne_eqb, false≢true}
use Rattle.std.proofs.lemmas.List.{length_push}
use Rattle.std.proofs.lemmas.List.Folds.{list_any-append}
use Rattle.std.proofs.lemmas.Option.{none-some, same_Some}
use Rattle.ad_sets.specs.declared.told.Sign.{Sign}
use Rattle.ad_sets.specs.declared.told.Fact.{Fact}
use Rattle.ad_sets.specs.declared.told.Fact.TheVariants.{On}
use Rattle.ad_sets.specs.Told.{RowValue, stands_in, signed, told_at, members_from, same_set, place_in, facts_from}
use Rattle.ad_sets.specs.Told.{row_facts, is_in, line_of, reads_by, reads, AreApart}

-- ---- sets that are equal

pub same_from : (a b : List Bool) → same_set a b ≡ true → a ≡ b
same_from [] [] is = refl
same_from [] (y ∷ ys) is = absurd (false≢true is)
same_from (x ∷ xs) [] is = absurd (false≢true is)
same_from (true ∷ xs) (true ∷ ys) is = ap (λ (l : List Bool). true ∷ l) (same_from xs ys is)
same_from (true ∷ xs) (false ∷ ys) is = absurd (false≢true is)
same_from (false ∷ xs) (true ∷ ys) is = absurd (false≢true is)
same_from (false ∷ xs) (false ∷ ys) is = ap (λ (l : List Bool). false ∷ l) (same_from xs ys is)

-- ---- the members of one set

members_other : (set : List Bool) (k p n m : ℕ) → (k == n) ≡ false → list_any (is_in n m) (members_from k p set) ≡ false
unfolding members_from
members_other [] k p n m other = refl
members_other (true ∷ set) k p n m other =
    ap (λ (b : Bool). (b && (p == m)) || list_any (is_in n m) (members_from k (p + 1) set)) other
    ∙ members_other set k (p + 1) n m other
members_other (false ∷ set) k p n m other = members_other set k (p + 1) n m other

and_false : (b : Bool) → b && false ≡ false
and_false true = refl
and_false false = refl

members_past : (set : List Bool) (k p q : ℕ) → q < p → list_any (is_in k q) (members_from k p set) ≡ false
unfolding members_from
members_past [] k p q lt = refl
members_past (true ∷ set) k p q lt =
    ap (λ (b : Bool). ((k == k) && b) || list_any (is_in k q) (members_from k (p + 1) set))
    (ne_eqb p q (λ (e : p ≡ q). omega (arith, e, lt)))
    ∙ ap (λ (b : Bool). b || list_any (is_in k q) (members_from k (p + 1) set)) (and_false (k == k))
    ∙ members_past set k (p + 1) q (omega (arith, lt))
members_past (false ∷ set) k p q lt = members_past set k (p + 1) q (omega (arith, lt))

members_at : (set : List Bool) (k p i q : ℕ) → q ≡ p + i → list_any (is_in k q) (members_from k p set) ≡ stands_in set i
unfolding members_from
members_at [] k p i q e = refl
members_at (true ∷ set) k p zero q e =
    ap (λ (b : Bool). (b && (p == q)) || list_any (is_in k q) (members_from k (p + 1) set)) (eq-eqb k k refl)
    ∙ ap (λ (b : Bool). b || list_any (is_in k q) (members_from k (p + 1) set)) (eq-eqb p q (omega (arith, e)))
members_at (false ∷ set) k p zero q e = members_past set k (p + 1) q (omega (arith, e))
members_at (true ∷ set) k p (suc i) q e =
    ap (λ (b : Bool). ((k == k) && b) || list_any (is_in k q) (members_from k (p + 1) set))
    (ne_eqb p q (λ (same : p ≡ q). omega (arith, same, e)))
    ∙ ap (λ (b : Bool). b || list_any (is_in k q) (members_from k (p + 1) set)) (and_false (k == k))
    ∙ members_at set k (p + 1) i q (omega (arith, e))
members_at (false ∷ set) k p (suc i) q e = members_at set k (p + 1) i q (omega (arith, e))

members_any : (set : List Bool) (k n m : ℕ) → list_any (is_in n m) (members_from k 0 set) ≡ (k == n) && stands_in set m
members_any set k n m = elim (cases_eq k n) [
  | inl same ↦
      subst (λ (x : ℕ). list_any (is_in x m) (members_from k 0 set) ≡ (k == x) && stands_in set m) same
      (members_at set k 0 m m (omega arith)
      ∙ ap (λ (b : Bool). b && stands_in set m) (sym (eq-eqb k k refl)))
  | inr other ↦
      members_other set k 0 n m (ne_eqb k n other)
      ∙ ap (λ (b : Bool). b && stands_in set m) (sym (ne_eqb k n other))
]

-- ---- the sets that were told

-- by their numbers, of which the first has this one
known : ℕ → List (List Bool) → ℕ → ℕ → Bool
known k [] n m = false
known k (set ∷ sets) n m = ((k == n) && stands_in set m) || known (k + 1) sets n m

known_past : (sets : List (List Bool)) (k n m : ℕ) → n < k → known k sets n m ≡ false
unfolding known
known_past [] k n m lt = refl
known_past (set ∷ sets) k n m lt =
    ap (λ (b : Bool). (b && stands_in set m) || known (k + 1) sets n m) (ne_eqb k n (λ (e : k ≡ n). omega (arith, e, lt)))
    ∙ known_past sets (k + 1) n m (omega (arith, lt))

known_end : (sets : List (List Bool)) (k n m : ℕ) → k + length sets ≤ n → known k sets n m ≡ false
unfolding known
known_end [] k n m le = refl
known_end (set ∷ sets) k n m le =
    ap (λ (b : Bool). (b && stands_in set m) || known (k + 1) sets n m) (ne_eqb k n (λ (e : k ≡ n). omega (arith, e, le)))
    ∙ known_end sets (k + 1) n m (omega (arith, le))

or_left_assoc : (a b c : Bool) → a || (b || c) ≡ (a || b) || c
or_left_assoc true b c = refl
or_left_assoc false b c = refl

known_more : (sets : List (List Bool)) (set : List Bool) (k n m : ℕ) → known k (sets ++ set ∷ []) n m
    ≡ known k sets n m || (((k + length sets) == n) && stands_in set m)
unfolding known
known_more [] set k n m =
    let e : k ≡ k + 0 = omega arith in
    or-false ((k == n) && stands_in set m) ∙ ap (λ (x : ℕ). (x == n) && stands_in set m) e
known_more (s ∷ sets) set k n m =
    let e : (k + 1) + length sets ≡ k + length (s ∷ sets) = omega arith in
    ap (λ (b : Bool). ((k == n) && stands_in s m) || b) (known_more sets set (k + 1) n m)
    ∙ or_left_assoc ((k == n) && stands_in s m) (known (k + 1) sets n m)
    ((((k + 1) + length sets) == n) && stands_in set m)
    ∙ ap (λ (x : ℕ). (((k == n) && stands_in s m) || known (k + 1) sets n m) || ((x == n) && stands_in set m)) e

-- a set that was told is known by its number
record IsPlaced (k : ℕ) (sets : List (List Bool)) (set : List Bool) (place : ℕ) : Type 0 where
  within : place < length sets
  known_is : (n m : ℕ) → n ≡ k + place → known k sets n m ≡ stands_in set m

placed_later : (s : List Bool) (sets : List (List Bool)) (set : List Bool) (k place p : ℕ)
    → IsPlaced (k + 1) sets set p → p + 1 ≡ place → IsPlaced k (s ∷ sets) set place
unfolding known
placed_later s sets set k place p at is_next = record {
  within = let lt : p < length sets = at.within in omega (arith, lt, is_next);
  known_is = λ n m n_is.
      ap (λ (b : Bool). (b && stands_in s m) || known (k + 1) sets n m)
      (ne_eqb k n (λ (e : k ≡ n). omega (arith, e, n_is, is_next)))
      ∙ at.known_is n m (omega (arith, n_is, is_next));
}

placed_first : (s : List Bool) (sets : List (List Bool)) (set : List Bool) (k place : ℕ) → same_set s set ≡ true
    → 0 ≡ place → IsPlaced k (s ∷ sets) set place
unfolding known
placed_first s sets set k place same zero_is = record {
  within = omega (arith, zero_is);
  known_is = λ n m n_is.
      ap (λ (b : Bool). (b && stands_in s m) || known (k + 1) sets n m) (eq-eqb k n (omega (arith, n_is, zero_is)))
      ∙ ap (λ (b : Bool). stands_in s m || b) (known_past sets (k + 1) n m (omega (arith, n_is, zero_is)))
      ∙ or-false (stands_in s m)
      ∙ ap (λ (l : List Bool). stands_in l m) (same_from s set same);
}

placed_found : (found : Option ℕ) (s : List Bool) (sets : List (List Bool)) (set : List Bool) (k place : ℕ)
    → ((p : ℕ) → found ≡ Some p → IsPlaced (k + 1) sets set p)
    → option_map (λ (n : ℕ). n + 1) found ≡ Some place → IsPlaced k (s ∷ sets) set place
placed_found None s sets set k place others some = absurd (none-some place some)
placed_found (Some p) s sets set k place others some =
    placed_later s sets set k place p (others p refl) (same_Some (p + 1) place some)

placed_tested : (b : Bool) (s : List Bool) (sets : List (List Bool)) (set : List Bool) (k place : ℕ)
    → same_set s set ≡ b → ((p : ℕ) → place_in sets set ≡ Some p → IsPlaced (k + 1) sets set p)
    → (if b then Some 0 else option_map (λ (n : ℕ). n + 1) (place_in sets set)) ≡ Some place
    → IsPlaced k (s ∷ sets) set place
placed_tested true s sets set k place same others some =
    placed_first s sets set k place same (same_Some 0 place some)
placed_tested false s sets set k place other others some =
    placed_found (place_in sets set) s sets set k place others some

placed : (sets : List (List Bool)) (set : List Bool) (k place : ℕ) → place_in sets set ≡ Some place
    → IsPlaced k sets set place
unfolding place_in
placed [] set k place is = absurd (none-some place is)
placed (s ∷ sets) set k place is =
    placed_tested (same_set s set) s sets set k place refl (λ p there. placed sets set (k + 1) p there) is

-- ---- the facts of a first object that has one of the sets told before, and of one that has a new set

abbrev again : List (List Bool) → RowValue → List RowValue → ℕ → List Fact
again sets row rows place = On (place + 1) row.sign row.object ∷ facts_from sets rows

abbrev anew : List (List Bool) → RowValue → List RowValue → List Fact
anew sets row rows = members_from (length sets + 1) 0 row.set
    ++ On (length sets + 1) row.sign row.object ∷ facts_from (sets ++ row.set ∷ []) rows

-- ---- numbers rise

later_step : (found : Option ℕ) (sets : List (List Bool)) (row : RowValue) (rows : List RowValue) (n m : ℕ)
    → n ≤ length sets → list_any (is_in n m) (facts_from sets rows) ≡ false
    → list_any (is_in n m) (facts_from (sets ++ row.set ∷ []) rows) ≡ false
    → list_any (is_in n m) (option_map_or (λ (place : ℕ). again sets row rows place) found (anew sets row rows)) ≡ false
later_step (Some place) sets row rows n m le old new = old
later_step None sets row rows n m le old new =
    list_any-append (is_in n m) (members_from (length sets + 1) 0 row.set)
    (On (length sets + 1) row.sign row.object ∷ facts_from (sets ++ row.set ∷ []) rows)
    ∙ ap (λ (b : Bool). b || list_any (is_in n m) (facts_from (sets ++ row.set ∷ []) rows))
    (members_other row.set (length sets + 1) 0 n m
    (ne_eqb (length sets + 1) n (λ (e : length sets + 1 ≡ n). omega (arith, e, le))))
    ∙ new

later_numbers : (rows : List RowValue) (sets : List (List Bool)) (n m : ℕ) → n ≤ length sets
    → list_any (is_in n m) (facts_from sets rows) ≡ false
unfolding facts_from
later_numbers [] sets n m le = refl
later_numbers (row ∷ rows) sets n m le =
    later_step (place_in sets row.set) sets row rows n m le (later_numbers rows sets n m le)
    (later_numbers rows (sets ++ row.set ∷ []) n m (omega (arith, le, length_push sets row.set)))

-- ---- the line of an object

line_behind : (set : List Bool) (k p : ℕ) (facts : List Fact) (object : ℕ) → line_of (members_from k p set ++ facts) object
    ≡ line_of facts object
unfolding members_from line_of
line_behind [] k p facts object = refl
line_behind (true ∷ set) k p facts object = line_behind set k (p + 1) facts object
line_behind (false ∷ set) k p facts object = line_behind set k (p + 1) facts object

line_first : (n : ℕ) (sign : Sign) (o : ℕ) (facts : List Fact) → line_of (On n sign o ∷ facts) o ≡ Some (On n sign o)
unfolding line_of
line_first n sign o facts =
    ap (λ (b : Bool). if b then Some (On n sign o) else line_of facts o) (eq-eqb o o refl)

line_next : (n : ℕ) (sign : Sign) (o object : ℕ) (facts : List Fact) → (o == object) ≡ false
    → line_of (On n sign o ∷ facts) object ≡ line_of facts object
unfolding line_of
line_next n sign o object facts other =
    ap (λ (b : Bool). if b then Some (On n sign o) else line_of facts object) other

-- ---- all

-- the line of an object names a set, by those that were told before and by these facts
record IsRead (sets : List (List Bool)) (facts : List Fact) (row : RowValue) : Type 0 where
  number : ℕ
  line : line_of facts row.object ≡ Some (On number row.sign row.object)
  set_is : (m : ℕ) → known 1 sets number m || list_any (is_in number m) facts ≡ stands_in row.set m

other_object : (rows : List RowValue) (place object : ℕ) (row : RowValue)
    → AllByRecursion (λ (other : RowValue). (object == other.object) ≡ false) rows → slice_get rows place ≡ Some row
    → (object == row.object) ≡ false
other_object [] place object row all there = absurd (none-some row there)
other_object (r ∷ rows) zero object row all there =
    subst (λ (x : RowValue). (object == x.object) ≡ false) (same_Some r row there) all.0
other_object (r ∷ rows) (suc place) object row all there = other_object rows place object row all.1 there

first_again : (sets : List (List Bool)) (row : RowValue) (rows : List RowValue) (place : ℕ)
    → IsPlaced 1 sets row.set place → IsRead sets (again sets row rows place) row
first_again sets row rows place at = record {
  number = place + 1;
  line = line_first (place + 1) row.sign row.object (facts_from sets rows);
  set_is = λ m.
      let lt = at.within in
      ap (λ (b : Bool). known 1 sets (place + 1) m || b)
      (later_numbers rows sets (place + 1) m (omega (arith, lt)))
      ∙ or-false (known 1 sets (place + 1) m)
      ∙ at.known_is (place + 1) m (omega arith);
}

next_again : (sets : List (List Bool)) (row other : RowValue) (rows : List RowValue) (place : ℕ)
    → (row.object == other.object) ≡ false → IsRead sets (facts_from sets rows) other
    → IsRead sets (again sets row rows place) other
next_again sets row other rows place apart is = record {
  number = is.number;
  line = line_next (place + 1) row.sign row.object other.object (facts_from sets rows) apart ∙ is.line;
  set_is = is.set_is;
}

any_anew : (sets : List (List Bool)) (row : RowValue) (rows : List RowValue) (n m : ℕ)
    → list_any (is_in n m) (anew sets row rows) ≡ (((length sets + 1) == n) && stands_in row.set m)
    || list_any (is_in n m) (facts_from (sets ++ row.set ∷ []) rows)
any_anew sets row rows n m =
    list_any-append (is_in n m) (members_from (length sets + 1) 0 row.set)
    (On (length sets + 1) row.sign row.object ∷ facts_from (sets ++ row.set ∷ []) rows)
    ∙ ap (λ (b : Bool). b || list_any (is_in n m) (facts_from (sets ++ row.set ∷ []) rows))
    (members_any row.set (length sets + 1) n m)

first_anew : (sets : List (List Bool)) (row : RowValue) (rows : List RowValue)
    → IsRead sets (anew sets row rows) row
first_anew sets row rows = record {
  number = length sets + 1;
  line = line_is;
  set_is = λ m.
      let rest : list_any (is_in (length sets + 1) m) (facts_from (sets ++ row.set ∷ []) rows) ≡ false
      = later_numbers rows (sets ++ row.set ∷ []) (length sets + 1) m (omega (arith, length_push sets row.set)) in
      ap (λ (b : Bool). b || list_any (is_in (length sets + 1) m) (anew sets row rows))
      (known_end sets 1 (length sets + 1) m (omega arith))
      ∙ any_anew sets row rows (length sets + 1) m
      ∙ ap (λ (b : Bool). (((length sets + 1) == (length sets + 1)) && stands_in row.set m) || b) rest
      ∙ or-false (((length sets + 1) == (length sets + 1)) && stands_in row.set m)
      ∙ ap (λ (b : Bool). b && stands_in row.set m) (eq-eqb (length sets + 1) (length sets + 1) refl);
}
  where
    line_is : line_of (anew sets row rows) row.object ≡ Some (On (length sets + 1) row.sign row.object)
    line_is = line_behind row.set (length sets + 1) 0
        (On (length sets + 1) row.sign row.object ∷ facts_from (sets ++ row.set ∷ []) rows) row.object
        ∙ line_first (length sets + 1) row.sign row.object (facts_from (sets ++ row.set ∷ []) rows)

next_anew : (sets : List (List Bool)) (row other : RowValue) (rows : List RowValue)
    → (row.object == other.object) ≡ false
    → IsRead (sets ++ row.set ∷ []) (facts_from (sets ++ row.set ∷ []) rows) other
    → IsRead sets (anew sets row rows) other
next_anew sets row other rows apart is = record {
  number = is.number;
  line = line_is;
  set_is = λ m.
      let rest : Bool = list_any (is_in is.number m) (facts_from (sets ++ row.set ∷ []) rows) in
      ap (λ (b : Bool). known 1 sets is.number m || b) (any_anew sets row rows is.number m)
      ∙ or_left_assoc (known 1 sets is.number m) (((length sets + 1) == is.number) && stands_in row.set m) rest
      ∙ ap (λ (x : ℕ). (known 1 sets is.number m || ((x == is.number) && stands_in row.set m)) || rest) turned
      ∙ ap (λ (b : Bool). b || rest) (sym (known_more sets row.set 1 is.number m))
      ∙ is.set_is m;
}
  where
    turned : length sets + 1 ≡ 1 + length sets
    turned = omega arith

    line_is : line_of (anew sets row rows) other.object ≡ Some (On is.number other.sign other.object)
    line_is = line_behind row.set (length sets + 1) 0
        (On (length sets + 1) row.sign row.object ∷ facts_from (sets ++ row.set ∷ []) rows) other.object
        ∙ line_next (length sets + 1) row.sign row.object other.object (facts_from (sets ++ row.set ∷ []) rows) apart
        ∙ is.line

first_read : (found : Option ℕ) (sets : List (List Bool)) (r : RowValue) (rows : List RowValue)
    → place_in sets r.set ≡ found
    → IsRead sets (option_map_or (λ (p : ℕ). again sets r rows p) found (anew sets r rows)) r
first_read None sets r rows e = first_anew sets r rows
first_read (Some p) sets r rows e = first_again sets r rows p (placed sets r.set 1 p e)

next_read : (found : Option ℕ) (sets : List (List Bool)) (r row : RowValue) (rows : List RowValue)
    → (r.object == row.object) ≡ false → IsRead sets (facts_from sets rows) row
    → IsRead (sets ++ r.set ∷ []) (facts_from (sets ++ r.set ∷ []) rows) row
    → IsRead sets (option_map_or (λ (p : ℕ). again sets r rows p) found (anew sets r rows)) row
next_read None sets r row rows other old new = next_anew sets r row rows other new
next_read (Some p) sets r row rows other old new = next_again sets r row rows p other old

all_read : (rows : List RowValue) (sets : List (List Bool)) (place : ℕ) (row : RowValue) → AreApart rows
    → slice_get rows place ≡ Some row → IsRead sets (facts_from sets rows) row
unfolding facts_from AreApart
all_read [] sets place row apart there = absurd (none-some row there)
all_read (r ∷ rows) sets zero row apart there =
    subst (λ (x : RowValue). IsRead sets (option_map_or (λ (p : ℕ). again sets r rows p) (place_in sets r.set)
    (anew sets r rows)) x) (same_Some r row there) (first_read (place_in sets r.set) sets r rows refl)
all_read (r ∷ rows) sets (suc place) row apart there =
    next_read (place_in sets r.set) sets r row rows (other_object rows place r.object row apart.0 there)
    (all_read rows sets place row apart.1 there) (all_read rows (sets ++ r.set ∷ []) place row apart.1 there)

pub read_back : (rows : List RowValue) (place member : ℕ) (row : RowValue) → AreApart rows
    → slice_get rows place ≡ Some row → reads (row_facts rows) row.object row.own member ≡ told_at row member
unfolding known
read_back rows place member row apart there =
    let is = all_read rows [] place row apart there in
    ap (λ (o : Option Fact). option_map_or (reads_by (row_facts rows) row.own member) o false) is.line
    ∙ ap (λ (b : Bool). signed row.sign row.own member b) (is.set_is member)

-- ---- an object that isn't told

no_line_step : (found : Option ℕ) (sets : List (List Bool)) (r : RowValue) (rows : List RowValue) (object : ℕ)
    → (r.object == object) ≡ false → line_of (facts_from sets rows) object ≡ None
    → line_of (facts_from (sets ++ r.set ∷ []) rows) object ≡ None
    → line_of (option_map_or (λ (p : ℕ). again sets r rows p) found (anew sets r rows)) object ≡ None
no_line_step None sets r rows object other old new =
    line_behind r.set (length sets + 1) 0
    (On (length sets + 1) r.sign r.object ∷ facts_from (sets ++ r.set ∷ []) rows) object
    ∙ line_next (length sets + 1) r.sign r.object object (facts_from (sets ++ r.set ∷ []) rows) other
    ∙ new
no_line_step (Some p) sets r rows object other old new =
    line_next (p + 1) r.sign r.object object (facts_from sets rows) other ∙ old

no_line : (rows : List RowValue) (sets : List (List Bool)) (object : ℕ)
    → AllByRecursion (λ (r : RowValue). (r.object == object) ≡ false) rows
    → line_of (facts_from sets rows) object ≡ None
unfolding facts_from line_of
no_line [] sets object others = refl
no_line (r ∷ rows) sets object others =
    no_line_step (place_in sets r.set) sets r rows object others.0 (no_line rows sets object others.1)
    (no_line rows (sets ++ r.set ∷ []) object others.1)

pub nobody_read : (rows : List RowValue) (object member : ℕ) (own : Option ℕ)
    → AllByRecursion (λ (r : RowValue). (r.object == object) ≡ false) rows
    → reads (row_facts rows) object own member ≡ false
nobody_read rows object member own others =
    ap (λ (o : Option Fact). option_map_or (reads_by (row_facts rows) own member) o false)
    (no_line rows [] object others)
