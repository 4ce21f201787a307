-- The objects by number in a map are those of the model's list, whatever the bytes of their ids.
use Rattle.std.proofs.Common.{Bool, eqb, ltb, true, false, cond, if◌then◌else◌, Option, Some, None, Bor, ◌≡◌, inl}
use Rattle.std.proofs.Common.{inr, ℕ, List, [], ◌∷◌, ◌++◌, map, refl, sym, ap, subst, ◌∙◌, arith}
use Rattle.std.specs.Prelude.{not, filter, find, option_map, option_copied, IfSome}
use Rattle.std.specs.List.{AllByRecursion}
use Rattle.std.specs.Map.{lookup, remove_entry, keys_of}
use Rattle.std.specs.BTreeMap.{insert_entry, is_at}
use Rattle.std.specs.List.Sorted.{IsStrictlySortedBy}
use Rattle.std.specs.Ordering.{nat_cmp, is_eq, match_ordering}
use Rattle.std.specs.declared.cmp.Ordering.{Ordering}
use Rattle.std.specs.declared.cmp.Ordering.TheVariants.{Less, Equal, Greater}
use Rattle.std.proofs.lemmas.Bool.{cases_Bool, eqb-true}
use Rattle.std.proofs.lemmas.Bool.Decides.{nat_tests}
use Rattle.sd_pool.specs.Blocks.{Extent}
use Rattle.ad_dir_table.specs.declared.stored_object.StoredObject.{StoredObject}
use Rattle.std.proofs.lemmas.List.{append-nil}
use Rattle.std.proofs.lemmas.Option.{same_Some}
use Rattle.std.specs.Map.{values_of}
use Rattle.ad_dir_table.specs.Fields.{AllKept, AreKeyed, object_kept, objects_kept}
use Rattle.ad_dir_model.specs.Object.{Object}
use Rattle.ad_dir_model.specs.Objects.{object_of, numbers, put, removed, has_number}

-- ---- comparing numbers

-- what a comparison says
pub record Less_ (a b : ℕ) : Type 0 where
  pub is : nat_cmp a b ≡ Less
  pub below : ltb a b ≡ true
  pub differ : eqb b a ≡ false

pub record Equal_ (a b : ℕ) : Type 0 where
  pub is : nat_cmp a b ≡ Equal
  pub same : eqb b a ≡ true

pub record Greater_ (a b : ℕ) : Type 0 where
  pub is : nat_cmp a b ≡ Greater
  pub below : ltb a b ≡ false
  pub differ : eqb b a ≡ false

pub data Compared (a b : ℕ) : Type 0 where
  less : Less_ a b → Compared a b
  equal : Equal_ a b → Compared a b
  greater : Greater_ a b → Compared a b

pub compared : (a b : ℕ) → Compared a b
compared a b = elim (cases_Bool (ltb a b)) [
  | inl lt ↦ less (record {
    is = ap (λ (t : Bool). cond t Less (cond (eqb a b) Equal Greater)) lt;
    below = lt;
    differ
        = grind (arith, nat_tests);
  })
  | inr ge ↦ elim (cases_Bool (eqb a b)) [
    | inl same ↦ equal (record {
      is = ap (λ (t : Bool). cond t Less (cond (eqb a b) Equal Greater)) ge ∙ ap (λ (t : Bool). cond t Equal Greater)
          same;
      same = grind (arith, nat_tests);
    })
    | inr other ↦ greater (record {
      is = ap (λ (t : Bool). cond t Less (cond (eqb a b) Equal Greater)) ge ∙ ap (λ (t : Bool). cond t Equal Greater)
          other;
      below = ge;
      differ = grind (arith, nat_tests);
    })
  ]
]

at_is : (n m : ℕ) → is_at (nat_cmp n) m ≡ eqb m n
at_is n m = by_case (compared n m)
  where
    by_case : Compared n m → is_at (nat_cmp n) m ≡ eqb m n
    by_case (less h) = ap is_eq h.is ∙ sym h.differ
    by_case (equal h) = ap is_eq h.is ∙ sym h.same
    by_case (greater h) = ap is_eq h.is ∙ sym h.differ

module _ (live : List Extent) where
  -- ---- finding

  found_in : (entries : List (ℕ × StoredObject)) (number : ℕ) → AreKeyed entries → option_map (object_kept live)
      (lookup (is_at (nat_cmp number)) entries) ≡ find (has_number number) (objects_kept live entries)
  found_in [] number keyed = refl
  found_in (entry ∷ entries) number keyed =
      let test : is_at (nat_cmp number) entry.0 ≡ eqb entry.1.object.number number = at_is number entry.0
      ∙ ap (λ (k : ℕ). eqb k number) keyed.0 in
      ap (λ (t : Bool). option_map (object_kept live)
      (cond t (Some entry.1) (lookup (is_at (nat_cmp number)) entries))) test
      ∙ by_test (eqb entry.1.object.number number) (found_in entries number keyed.1)
    where
      by_test : (t : Bool) → option_map (object_kept live) (lookup (is_at (nat_cmp number)) entries)
          ≡ find (has_number number) (objects_kept live entries)
          → option_map (object_kept live) (cond t (Some entry.1) (lookup (is_at (nat_cmp number)) entries))
          ≡ (if t then Some (object_kept live entry.1) else find (has_number number) (objects_kept live entries))
      by_test true rest = refl
      by_test false rest = rest

  pub found : (entries : List (ℕ × StoredObject)) (number : ℕ) → AreKeyed entries → option_map (object_kept live)
      (lookup (is_at (nat_cmp number)) entries) ≡ object_of (objects_kept live entries) number
  unfolding object_of
  found entries number keyed = found_in entries number keyed

  pub through : (found : Option (Bor StoredObject)) → option_map (λ kept. object_kept live kept.now) found
      ≡ option_map (object_kept live) (option_copied found)
  through None = refl
  through (Some kept) = refl

  -- ---- putting

  -- what an insertion makes of the entries
  pub record IsPut (entries : List (ℕ × StoredObject)) (kept : StoredObject) (new : List (ℕ × StoredObject)) : Type 0 where
    pub keyed : AreKeyed new
    pub seen : objects_kept live new ≡ put (object_kept live kept) (objects_kept live entries)

  pub inserted : (entries : List (ℕ × StoredObject)) (number : ℕ) (kept : StoredObject) → number ≡ kept.object.number
      → AreKeyed entries → IsPut entries kept (insert_entry nat_cmp entries number kept)
  unfolding put
  inserted [] number kept is keyed = record { keyed = (is, tt); seen = refl }
  inserted (entry ∷ entries) number kept is keyed =
      subst (λ (o : Ordering). IsPut (entry ∷ entries) kept
      (match_ordering o ((number, kept) ∷ entry ∷ entries) ((entry.0, kept) ∷ entries)
      (entry ∷ insert_entry nat_cmp entries number kept))) refl
      (by_case (compared number entry.0) (inserted entries number kept is keyed.1))
    where
      own : ℕ
      own = entry.1.object.number

      at_entry : (t u : Bool) → eqb own kept.object.number ≡ t → ltb kept.object.number own ≡ u
          → put (object_kept live kept) (objects_kept live (entry ∷ entries))
          ≡ (if t then object_kept live kept ∷ objects_kept live entries
          else (if u then object_kept live kept ∷ object_kept live entry.1 ∷ objects_kept live entries
          else object_kept live entry.1 ∷ put (object_kept live kept) (objects_kept live entries)))
      at_entry t u same below =
          ap (λ (s : Bool). if s then object_kept live kept ∷ objects_kept live entries
          else (if ltb kept.object.number own then object_kept live kept ∷ object_kept live entry.1
          ∷ objects_kept live entries else object_kept live entry.1 ∷ put (object_kept live kept)
          (objects_kept live entries))) same
          ∙ ap (λ (s : Bool). if t then object_kept live kept ∷ objects_kept live entries
          else (if s then object_kept live kept ∷ object_kept live entry.1 ∷ objects_kept live entries
          else object_kept live entry.1 ∷ put (object_kept live kept) (objects_kept live entries))) below

      tests : (t u : Bool) → eqb entry.0 number ≡ t → ltb number entry.0 ≡ u → (eqb own kept.object.number ≡ t)
          × (ltb kept.object.number own ≡ u)
      tests t u same below = (
        ap (λ (k : ℕ). eqb k kept.object.number) (sym keyed.0) ∙ ap (eqb entry.0) (sym is) ∙ same,
        ap (ltb kept.object.number) (sym keyed.0) ∙ ap (λ (k : ℕ). ltb k entry.0) (sym is) ∙ below,
      )

      by_case : Compared number entry.0 → IsPut entries kept (insert_entry nat_cmp entries number kept)
          → IsPut (entry ∷ entries) kept (insert_entry nat_cmp (entry ∷ entries) number kept)
      by_case (less h) rest =
          let t = tests false true h.differ h.below in
          subst (λ (new : List (ℕ × StoredObject)). IsPut (entry ∷ entries) kept new)
          (ap (λ (o : Ordering). match_ordering o ((number, kept) ∷ entry ∷ entries) ((entry.0, kept) ∷ entries)
          (entry ∷ insert_entry nat_cmp entries number kept)) (sym h.is))
          (record { keyed = (is, keyed); seen = sym (at_entry false true t.0 t.1) })
      by_case (equal h) rest =
          let t = tests true (ltb number entry.0) h.same refl in
          let one : entry.0 ≡ number = eqb-true entry.0 number h.same in
          subst (λ (new : List (ℕ × StoredObject)). IsPut (entry ∷ entries) kept new)
          (ap (λ (o : Ordering). match_ordering o ((number, kept) ∷ entry ∷ entries) ((entry.0, kept) ∷ entries)
          (entry ∷ insert_entry nat_cmp entries number kept)) (sym h.is))
          (record { keyed = (one ∙ is, keyed.1); seen = sym (at_entry true (ltb number entry.0) t.0 t.1) })
      by_case (greater h) rest =
          let t = tests false false h.differ h.below in
          subst (λ (new : List (ℕ × StoredObject)). IsPut (entry ∷ entries) kept new)
          (ap (λ (o : Ordering). match_ordering o ((number, kept) ∷ entry ∷ entries) ((entry.0, kept) ∷ entries)
          (entry ∷ insert_entry nat_cmp entries number kept)) (sym h.is))
          (record {
            keyed = (keyed.0, rest.keyed);
            seen = ap (λ (os : List Object). object_kept live entry.1 ∷ os)
                rest.seen ∙ sym (at_entry false false t.0 t.1);
          })

  -- ---- removing

  -- where each number is above this one, this one isn't among them
  none_removed : (number : ℕ) (entries : List (ℕ × StoredObject)) → AreKeyed entries
      → AllByRecursion (λ (k : ℕ). nat_cmp number k ≡ Less) (keys_of entries)
      → filter (λ (o : Object). not (has_number number o)) (objects_kept live entries) ≡ objects_kept live entries
  none_removed number [] keyed above = refl
  none_removed number (entry ∷ entries) keyed above =
      ap (λ (t : Bool). if not t then object_kept live entry.1 ∷ filter (λ (o : Object). not (has_number number o))
      (objects_kept live entries) else filter (λ (o : Object). not (has_number number o))
      (objects_kept live entries)) (differ (compared number entry.0))
      ∙ ap (λ (os : List Object). object_kept live entry.1 ∷ os) (none_removed number entries keyed.1 above.1)
    where
      differ : Compared number entry.0 → eqb entry.1.object.number number ≡ false
      differ (less h) = ap (λ (k : ℕ). eqb k number) (sym keyed.0) ∙ h.differ
      differ (equal h) = let bad : Less ≡ Equal = sym above.0 ∙ h.is in absurd cc
      differ (greater h) = ap (λ (k : ℕ). eqb k number) (sym keyed.0) ∙ h.differ

  pub record IsRemoved (entries : List (ℕ × StoredObject)) (number : ℕ) (new : List (ℕ × StoredObject)) : Type 0 where
    pub keyed : AreKeyed new
    pub seen : objects_kept live new ≡ removed number (objects_kept live entries)

  taken : (entries : List (ℕ × StoredObject)) (number : ℕ) → AreKeyed entries → IsStrictlySortedBy nat_cmp (keys_of entries)
      → IsRemoved entries number (remove_entry (is_at (nat_cmp number)) entries)
  unfolding removed IsStrictlySortedBy
  taken [] number keyed sorted = record { keyed = tt; seen = refl }
  taken (entry ∷ entries) number keyed sorted = by_test (eqb entry.1.object.number number) refl
      (taken entries number keyed.1 sorted.1)
    where
      test : is_at (nat_cmp number) entry.0 ≡ eqb entry.1.object.number number
      test = at_is number entry.0 ∙ ap (λ (k : ℕ). eqb k number) keyed.0

      as_new : (t : Bool) → eqb entry.1.object.number number ≡ t
          → cond t entries (entry ∷ remove_entry (is_at (nat_cmp number)) entries)
          ≡ remove_entry (is_at (nat_cmp number)) (entry ∷ entries)
      as_new t is = ap (λ (s : Bool). cond s entries (entry ∷ remove_entry (is_at (nat_cmp number)) entries))
          (sym (test ∙ is))

      as_old : (t : Bool) → eqb entry.1.object.number number ≡ t
          → (if not t then object_kept live entry.1 ∷ filter (λ (o : Object). not (has_number number o))
          (objects_kept live entries) else filter (λ (o : Object). not (has_number number o))
          (objects_kept live entries))
          ≡ filter (λ (o : Object). not (has_number number o)) (objects_kept live (entry ∷ entries))
      as_old t is = ap (λ (s : Bool). if not s then object_kept live entry.1
          ∷ filter (λ (o : Object). not (has_number number o)) (objects_kept live entries)
          else filter (λ (o : Object). not (has_number number o)) (objects_kept live entries)) (sym is)

      by_test : (t : Bool) → eqb entry.1.object.number number ≡ t → IsRemoved entries number
          (remove_entry (is_at (nat_cmp number)) entries)
          → IsRemoved (entry ∷ entries) number (remove_entry (is_at (nat_cmp number)) (entry ∷ entries))
      by_test true is rest =
          let one : entry.0 ≡ number = keyed.0 ∙ eqb-true entry.1.object.number number is in
          let above : AllByRecursion (λ (k : ℕ). nat_cmp number k ≡ Less) (keys_of entries)
          = subst (λ (n : ℕ). AllByRecursion (λ (k : ℕ). nat_cmp n k ≡ Less) (keys_of entries)) one sorted.0 in
          subst (λ (new : List (ℕ × StoredObject)). IsRemoved (entry ∷ entries) number new) (as_new true is)
          (record { keyed = keyed.1; seen = sym (none_removed number entries keyed.1 above) ∙ as_old true is })
      by_test false is rest =
          subst (λ (new : List (ℕ × StoredObject)). IsRemoved (entry ∷ entries) number new) (as_new false is)
          (record {
            keyed = (keyed.0, rest.keyed);
            seen = ap (λ (os : List Object). object_kept live entry.1 ∷ os)
                rest.seen ∙ as_old false is;
          })

  pub gone : (entries : List (ℕ × StoredObject)) (number : ℕ) → AreKeyed entries → IsStrictlySortedBy nat_cmp
      (keys_of entries) → IsRemoved entries number (remove_entry (is_at (nat_cmp number)) entries)
  gone entries number keyed sorted = taken entries number keyed sorted

-- ---- what holds of each object

pub all_inserted : (P : StoredObject → Type 0) (entries : List (ℕ × StoredObject)) (number : ℕ) (kept : StoredObject) → P kept
    → AllKept P entries → AllKept P (insert_entry nat_cmp entries number kept)
all_inserted P [] number kept p all = (p, tt)
all_inserted P (entry ∷ entries) number kept p all = by_case (nat_cmp number entry.0)
    (all_inserted P entries number kept p all.1)
  where
    by_case : (o : Ordering) → AllKept P (insert_entry nat_cmp entries number kept)
        → AllKept P (match_ordering o ((number, kept) ∷ entry ∷ entries) ((entry.0, kept) ∷ entries)
        (entry ∷ insert_entry nat_cmp entries number kept))
    by_case Less rest = (p, all)
    by_case Equal rest = (p, all.1)
    by_case Greater rest = (all.0, rest)

pub all_taken : (P : StoredObject → Type 0) (test : ℕ → Bool) (entries : List (ℕ × StoredObject)) → AllKept P entries
    → AllKept P (remove_entry test entries)
all_taken P test [] all = tt
all_taken P test (entry ∷ entries) all = by_test (test entry.0) (all_taken P test entries all.1)
  where
    by_test : (t : Bool) → AllKept P (remove_entry test entries)
        → AllKept P (cond t entries (entry ∷ remove_entry test entries))
    by_test true rest = all.1
    by_test false rest = (all.0, rest)

pub found_with : (P : StoredObject → Type 0) (test : ℕ → Bool) (entries : List (ℕ × StoredObject)) (kept : StoredObject) → AllKept P entries
    → lookup test entries ≡ Some kept → P kept
found_with P test [] kept all e = absurd cc
found_with P test (entry ∷ entries) kept all e = by_test (test entry.0) (found_with P test entries kept all.1) e
  where
    by_test : (t : Bool) → (lookup test entries ≡ Some kept → P kept) → cond t (Some entry.1) (lookup test entries)
        ≡ Some kept → P kept
    by_test true rest h = subst P (same_Some entry.1 kept h) all.0
    by_test false rest h = rest h

-- what was found has what holds of each
pub found_if : (P : StoredObject → Type 0) (entries : List (ℕ × StoredObject)) (number : ℕ) (result : Option (Bor StoredObject))
    → AllKept P entries
    → option_copied result ≡ lookup (is_at (nat_cmp number)) entries → IfSome result (λ kept. P kept.now)
found_if P entries number None all e = tt
found_if P entries number (Some kept) all e = found_with P (is_at (nat_cmp number)) entries kept.now all (sym e)

-- ---- the values

pub numbers_seen : (live : List Extent) (entries : List (ℕ × StoredObject)) → map (λ (kept : StoredObject). kept.object.number)
    (values_of entries) ≡ numbers (objects_kept live entries)
unfolding numbers
numbers_seen live [] = refl
numbers_seen live (entry ∷ entries) = ap (λ (l : List ℕ). entry.1.object.number ∷ l) (again entries)
  where
    again : (es : List (ℕ × StoredObject)) → map (λ (kept : StoredObject). kept.object.number) (values_of es)
        ≡ map (λ (o : Object). o.number) (objects_kept live es)
    again [] = refl
    again (e ∷ es) = ap (λ (l : List ℕ). e.1.object.number ∷ l) (again es)

pub all_done : {A B : Type 0} (f : A → B) (so_far : List B) (left : List A) (whole : List B) → so_far ++ map f left
    ≡ whole → left ≡ [] → so_far ≡ whole
all_done f so_far left whole is none = sym (append-nil so_far) ∙ sym (ap (λ (l : List _). so_far ++ map f l) none) ∙ is
