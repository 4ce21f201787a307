-- What a put and a removal do to the objects and the ids that they name.
use Rattle.std.proofs.Common.{◌≡◌, ℕ, ◌+◌, ◌<◌, ◌≤◌, Bool, cond, true, false, List, [], ◌∷◌, length, Option, Some}
use Rattle.std.proofs.Common.{None, refl, sym, subst, ap, ◌∙◌, if◌then◌else◌, arith, inl, inr, eqb, ltb}
use Rattle.std.specs.Prelude.{option_map}
use Rattle.std.specs.Option.{IfSome, IfNone}
use Rattle.std.specs.List.{AllByRecursion}
use Rattle.std.specs.Map.{lookup, set_value, remove_entry, keys_of}
use Rattle.std.specs.BTreeMap.{insert_entry, is_at}
use Rattle.std.specs.List.Sorted.{IsStrictlySortedBy}
use Rattle.std.specs.Ordering.{nat_cmp, is_eq, match_ordering}
use Rattle.std.specs.declared.cmp.Ordering.{Ordering}
use Rattle.std.specs.declared.cmp.Ordering.TheVariants.{Less, Equal, Greater}
use Rattle.std.proofs.lemmas.Bool.{cases_Bool, eq-eqb}
use Rattle.std.proofs.lemmas.Bool.Decides.{nat_tests}
use Rattle.std.proofs.lemmas.Option.{none-some}
use Rattle.ad_schema.specs.declared.line.SchemaRecord.{SchemaRecord}
use Rattle.ad_sd.specs.SdIn.{sd_in}
use Rattle.ad_sd.specs.Normal.{SpellsNormal}
use Rattle.sd_pool.specs.declared.id.SdId.{SdId}
use Rattle.sd_pool.specs.Blocks.{Extent}
use Rattle.sd_pool.specs.Pool.{Pool, extent_of, is_live}
use Rattle.sd_pool.specs.Sharers.{sharers_at, bytes_at, IsAdded, IsTaken}
use Rattle.sd_pool.proofs.SharerLaws.{shared_live}
use Rattle.ad_dir_objects.specs.Seen.{object_seen}
use Rattle.ad_dir_table.proofs.Entries.{Compared, compared, less, equal, greater}
use Rattle.ad_dir_table.specs.declared.stored_object.StoredObject.{StoredObject}
use Rattle.ad_dir_table.specs.Entry.{Entry, HasItsSid, HaveTheirSids}
use Rattle.ad_dir_table.specs.Fields.{AllKept, HasNormal, entry_kept, entries_kept, count_of, one_of}

-- ---- the ids that objects name

abbrev pub Shares : List Extent → List (ℕ × StoredObject) → Type 0
Shares live entries = (id : ℕ) → sharers_at live id ≡ count_of id entries

-- a number below another is below those above that one
less_through : (a b c : ℕ) → nat_cmp a b ≡ Less → nat_cmp b c ≡ Less → nat_cmp a c ≡ Less
less_through a b c first second = by_case (compared a b) (compared b c) (compared a c)
  where
    by_case : Compared a b → Compared b c → Compared a c → nat_cmp a c ≡ Less
    by_case (less x) (less y) (less z) = z.is
    by_case (less x) (less y) (equal z) =
        let p : ltb a b ≡ true = x.below in
        let q : ltb b c ≡ true = y.below in
        let r : eqb c a ≡ true = z.same in
        absurd (grind (arith, nat_tests))
    by_case (less x) (less y) (greater z) =
        let p : ltb a b ≡ true = x.below in
        let q : ltb b c ≡ true = y.below in
        let r : ltb a c ≡ false = z.below in
        absurd (grind (arith, nat_tests))
    by_case (less x) (equal y) z = let bad : Less ≡ Equal = sym second ∙ y.is in absurd cc
    by_case (less x) (greater y) z = let bad : Less ≡ Greater = sym second ∙ y.is in absurd cc
    by_case (equal x) y z = let bad : Less ≡ Equal = sym first ∙ x.is in absurd cc
    by_case (greater x) y z = let bad : Less ≡ Greater = sym first ∙ x.is in absurd cc

-- nothing stands at a number below all others
none_at : (n : ℕ) (entries : List (ℕ × StoredObject)) → AllByRecursion (λ (k : ℕ). nat_cmp n k ≡ Less) (keys_of entries)
    → lookup (is_at (nat_cmp n)) entries ≡ None
none_at n [] above = refl
none_at n (entry ∷ entries) above =
    ap (λ (o : Ordering). cond (is_eq o) (Some entry.1) (lookup (is_at (nat_cmp n)) entries)) above.0
    ∙ none_at n entries above.1

-- what is written at a number that stands there is put in its place
pub set_inserted : (n : ℕ) (kept was : StoredObject) (entries : List (ℕ × StoredObject)) → IsStrictlySortedBy nat_cmp
    (keys_of entries) → lookup (is_at (nat_cmp n)) entries ≡ Some was
    → set_value (is_at (nat_cmp n)) entries kept ≡ insert_entry nat_cmp entries n kept
unfolding IsStrictlySortedBy
set_inserted n kept was [] sorted found = absurd (none-some was found)
set_inserted n kept was (entry ∷ entries) sorted found = by_case (nat_cmp n entry.0) refl
    (set_inserted n kept was entries sorted.1)
  where
    step : (o : Ordering) → nat_cmp n entry.0 ≡ o
        → cond (is_eq o) ((entry.0, kept) ∷ entries) (entry ∷ set_value (is_at (nat_cmp n)) entries kept)
        ≡ match_ordering o ((n, kept) ∷ entry ∷ entries) ((entry.0, kept) ∷ entries)
        (entry ∷ insert_entry nat_cmp entries n kept)
        → set_value (is_at (nat_cmp n)) (entry ∷ entries) kept ≡ insert_entry nat_cmp (entry ∷ entries) n kept
    step o is e =
        subst (λ (p : Ordering). cond (is_eq p) ((entry.0, kept) ∷ entries)
        (entry ∷ set_value (is_at (nat_cmp n)) entries kept)
        ≡ match_ordering p ((n, kept) ∷ entry ∷ entries) ((entry.0, kept) ∷ entries)
        (entry ∷ insert_entry nat_cmp entries n kept)) (sym is) e

    found_as : (o : Ordering) → nat_cmp n entry.0 ≡ o
        → cond (is_eq o) (Some entry.1) (lookup (is_at (nat_cmp n)) entries) ≡ Some was
    found_as o is =
        subst (λ (p : Ordering). cond (is_eq p) (Some entry.1) (lookup (is_at (nat_cmp n)) entries) ≡ Some was) is
        found

    later : nat_cmp n entry.0 ≡ Less → (ks : List ℕ) → AllByRecursion (λ (k : ℕ). nat_cmp entry.0 k ≡ Less) ks
        → AllByRecursion (λ (k : ℕ). nat_cmp n k ≡ Less) ks
    later before [] all = tt
    later before (k ∷ ks) all = (less_through n entry.0 k before all.0, later before ks all.1)

    by_case : (o : Ordering) → nat_cmp n entry.0 ≡ o
        → (lookup (is_at (nat_cmp n)) entries ≡ Some was
        → set_value (is_at (nat_cmp n)) entries kept ≡ insert_entry nat_cmp entries n kept)
        → set_value (is_at (nat_cmp n)) (entry ∷ entries) kept ≡ insert_entry nat_cmp (entry ∷ entries) n kept
    by_case Less is rest =
        absurd (none-some was (sym (none_at n entries (later is (keys_of entries) sorted.0)) ∙ found_as Less is))
    by_case Equal is rest = step Equal is refl
    by_case Greater is rest = step Greater is
        (ap (λ (es : List (ℕ × StoredObject)). entry ∷ es) (rest (found_as Greater is)))

abbrev counted_in : ℕ → Option StoredObject → ℕ
counted_in id was = one_of id (option_map (λ (k : StoredObject). k.id) was)

pub count_inserted : (id : ℕ) (entries : List (ℕ × StoredObject)) (n : ℕ) (kept : StoredObject) → IsStrictlySortedBy nat_cmp
    (keys_of entries)
    → count_of id (insert_entry nat_cmp entries n kept) + counted_in id (lookup (is_at (nat_cmp n)) entries)
    ≡ count_of id entries + (if eqb kept.id.0 id then 1 else 0)
unfolding count_of IsStrictlySortedBy
count_inserted id [] n kept sorted = omega arith
count_inserted id (entry ∷ entries) n kept sorted = by_case (nat_cmp n entry.0) refl
    (count_inserted id entries n kept sorted.1)
  where
    own : ℕ
    own = if eqb entry.1.id.0 id then 1 else 0

    new : ℕ
    new = if eqb kept.id.0 id then 1 else 0

    step : (o : Ordering) → nat_cmp n entry.0 ≡ o
        → count_of id (match_ordering o ((n, kept) ∷ entry ∷ entries) ((entry.0, kept) ∷ entries)
        (entry ∷ insert_entry nat_cmp entries n kept))
        + counted_in id (cond (is_eq o) (Some entry.1) (lookup (is_at (nat_cmp n)) entries))
        ≡ count_of id (entry ∷ entries) + new
        → count_of id (insert_entry nat_cmp (entry ∷ entries) n kept)
        + counted_in id (lookup (is_at (nat_cmp n)) (entry ∷ entries)) ≡ count_of id (entry ∷ entries) + new
    step o is e =
        ap (λ (p : Ordering). count_of id (match_ordering p ((n, kept) ∷ entry ∷ entries) ((entry.0, kept) ∷ entries)
        (entry ∷ insert_entry nat_cmp entries n kept))
        + counted_in id (cond (is_eq p) (Some entry.1) (lookup (is_at (nat_cmp n)) entries))) is ∙ e

    behind : nat_cmp n entry.0 ≡ Less → lookup (is_at (nat_cmp n)) entries ≡ None
    behind before = none_at n entries (later (keys_of entries) sorted.0)
      where
        later : (ks : List ℕ) → AllByRecursion (λ (k : ℕ). nat_cmp entry.0 k ≡ Less) ks
            → AllByRecursion (λ (k : ℕ). nat_cmp n k ≡ Less) ks
        later [] all = tt
        later (k ∷ ks) all = (less_through n entry.0 k before all.0, later ks all.1)

    by_case : (o : Ordering) → nat_cmp n entry.0 ≡ o
        → count_of id (insert_entry nat_cmp entries n kept) + counted_in id (lookup (is_at (nat_cmp n)) entries)
        ≡ count_of id entries + new
        → count_of id (insert_entry nat_cmp (entry ∷ entries) n kept)
        + counted_in id (lookup (is_at (nat_cmp n)) (entry ∷ entries)) ≡ count_of id (entry ∷ entries) + new
    by_case Less is rest =
        let none : counted_in id (lookup (is_at (nat_cmp n)) entries) ≡ 0 = ap (counted_in id) (behind is) in
        step Less is (omega (arith, none))
    by_case Equal is rest = step Equal is (omega arith)
    by_case Greater is rest = step Greater is (omega (arith, rest))

pub count_removed : (id : ℕ) (entries : List (ℕ × StoredObject)) (test : ℕ → Bool) → count_of id (remove_entry test entries)
    + counted_in id (lookup test entries) ≡ count_of id entries
unfolding count_of
count_removed id [] test = refl
count_removed id (entry ∷ entries) test = by_test (test entry.0) (count_removed id entries test)
  where
    by_test : (t : Bool) → count_of id (remove_entry test entries) + counted_in id (lookup test entries)
        ≡ count_of id entries
        → count_of id (cond t entries (entry ∷ remove_entry test entries))
        + counted_in id (cond t (Some entry.1) (lookup test entries)) ≡ count_of id (entry ∷ entries)
    by_test true rest = omega arith
    by_test false rest = omega (arith, rest)

pub count_within : (id : ℕ) (entries : List (ℕ × StoredObject)) → count_of id entries ≤ length entries
unfolding count_of
count_within id [] = omega arith
count_within id (entry ∷ entries) =
    let rest = count_within id entries in
    elim (cases_Bool (eqb entry.1.id.0 id)) [
      | inl same ↦ rw same (omega (arith, rest))
      | inr other ↦ rw other (omega (arith, rest))
    ]

-- each id that is named is counted
counted_part : (whole part : List (ℕ × StoredObject)) → ((id : ℕ) → count_of id part ≤ count_of id whole)
    → AllKept (λ (k : StoredObject). 0 < count_of k.id.0 whole) part
unfolding count_of
counted_part whole [] within = tt
counted_part whole (entry ∷ entries) within
    = (own, counted_part whole entries (λ id. let more = within id in omega (arith, more)))
  where
    own : 0 < count_of entry.1.id.0 whole
    own =
        let all = within entry.1.id.0 in
        let one : ◌≡◌ {A = ℕ} (if eqb entry.1.id.0 entry.1.id.0 then 1 else 0) 1
        = rw (eq-eqb entry.1.id.0 entry.1.id.0 refl) refl in
        omega (arith, all, one)

pub all_counted : (entries : List (ℕ × StoredObject)) → AllKept (λ (k : StoredObject). 0 < count_of k.id.0 entries) entries
all_counted entries = counted_part entries entries (λ id. omega arith)

-- ---- bytes that stay

abbrev pub SameBytes : List Extent → List Extent → List (ℕ × StoredObject) → Type 0
SameBytes old new entries = AllKept (λ (k : StoredObject). bytes_at new k.id.0 ≡ bytes_at old k.id.0) entries

pub seen_same : (old new : List Extent) (entries : List (ℕ × StoredObject)) → SameBytes old new entries
    → entries_kept new entries ≡ entries_kept old entries
seen_same old new [] same = refl
seen_same old new (entry ∷ entries) same =
    ap (λ (bytes : List ℕ). made bytes ∷ entries_kept new entries) same.0
    ∙ ap (λ (rest : List Entry). entry_kept old entry.1 ∷ rest) (seen_same old new entries same.1)
  where
    made : List ℕ → Entry
    made bytes = record { object = object_seen entry.1.object (sd_in bytes); sid = (entry_kept old entry.1).sid }

pub normal_same : (old new : List Extent) (entries : List (ℕ × StoredObject)) → SameBytes old new entries
    → AllKept (HasNormal old) entries → AllKept (HasNormal new) entries
normal_same old new [] same normal = tt
normal_same old new (entry ∷ entries) same normal = (
  subst (λ (bytes : List ℕ). SpellsNormal (sd_in bytes) bytes) (sym same.0) normal.0,
  normal_same old new entries
      same.1 normal.1,
)

all_named : (P Q : StoredObject → Type 0) (entries : List (ℕ × StoredObject)) → ((k : StoredObject) → P k → Q k) → AllKept P entries
    → AllKept Q entries
all_named P Q [] f all = tt
all_named P Q (entry ∷ entries) f all = (f entry.1 all.0, all_named P Q entries f all.1)

pub added_same : (old new : List Extent) (id : ℕ) (bytes : List ℕ) (entries : List (ℕ × StoredObject))
    → IsAdded old new id bytes → Shares old entries → SameBytes old new entries
added_same old new id bytes entries added shares =
    all_named (λ k. 0 < count_of k.id.0 entries) (λ k. bytes_at new k.id.0 ≡ bytes_at old k.id.0) entries
    (λ k counted. added.kept k.id.0 (shared_live old k.id.0 (subst (λ (n : ℕ). 0 < n) (sym (shares k.id.0)) counted)))
    (all_counted entries)

pub taken_same : (old new : List Extent) (id : ℕ) (entries : List (ℕ × StoredObject)) → IsTaken old new id
    → Shares new entries → SameBytes old new entries
taken_same old new id entries taken shares =
    all_named (λ k. 0 < count_of k.id.0 entries) (λ k. bytes_at new k.id.0 ≡ bytes_at old k.id.0) entries
    (λ k counted. taken.kept k.id.0 (shared_live new k.id.0 (subst (λ (n : ℕ). 0 < n) (sym (shares k.id.0)) counted)))
    (all_counted entries)

-- ---- giving back what is named no more

-- the sharers but for one that goes are those that are named
abbrev pub SharesBut : List Extent → List (ℕ × StoredObject) → Option SdId → Type 0
SharesBut live entries was = (id : ℕ) → sharers_at live id ≡ count_of id entries + one_of id was

pub but_live : (live : List Extent) (entries : List (ℕ × StoredObject)) (was : Option SdId) → SharesBut live entries was
    → IfSome was (λ id. is_live live id.0 ≡ true)
but_live live entries None shares = tt
but_live live entries (Some id) shares =
    let count = shares id.0 in
    let one : ◌≡◌ {A = ℕ} (if eqb id.0 id.0 then 1 else 0) 1 = rw (eq-eqb id.0 id.0 refl) refl in
    let more : 0 < sharers_at live id.0 = omega (arith, count, one) in
    shared_live live id.0 more

pub record Settles (old new : List Extent) (entries : List (ℕ × StoredObject)) : Type 0 where
  pub shares : Shares new entries
  pub same : SameBytes old new entries

all_same : (live : List Extent) (entries : List (ℕ × StoredObject)) → SameBytes live live entries
all_same live [] = tt
all_same live (entry ∷ entries) = (refl, all_same live entries)

taken_settles : (old new : List Extent) (entries : List (ℕ × StoredObject)) (id : SdId) → SharesBut old entries (Some id)
    → IsTaken old new id.0 → Settles old new entries
taken_settles old new entries id shares taken
    = record { shares = now; same = taken_same old new id.0 entries taken now }
  where
    now : Shares new entries
    now k = let gone = taken.sharers k in let count = shares k in omega (arith, gone, count)

pub settles_after : (old new : Pool) (entries : List (ℕ × StoredObject)) (was : Option SdId) → SharesBut old.live entries was
    → IfSome was (λ id. IsTaken old.live new.live id.0) → IfNone was (new ≡ old)
    → Settles old.live new.live entries
settles_after old new entries None shares taken same =
    subst (λ (p : Pool). Settles old.live p.live entries) (sym same)
    (record { shares = λ k. let count = shares k in omega (arith, count); same = all_same old.live entries })
settles_after old new entries (Some id) shares taken same = taken_settles old.live new.live entries id shares taken

-- where nothing was put, what was put into the pool goes again
pub settles_again : (before old new : List Extent) (id : SdId) (bytes : List ℕ) (entries : List (ℕ × StoredObject))
    → Shares before entries → IsAdded before old id.0 bytes → IsTaken old new id.0 → Settles before new entries
settles_again before old new id bytes entries shares added taken =
    let back = taken_settles old new entries id (λ k. let more = added.sharers k in let count = shares k
    in omega (arith, more, count)) taken in
    record {
      shares = back.shares;
      same = through entries (added_same before old id.0 bytes entries added shares) back.same;
    }
  where
    through : (es : List (ℕ × StoredObject)) → SameBytes before old es → SameBytes old new es → SameBytes before new es
    through [] a b = tt
    through (e ∷ es) a b = (b.0 ∙ a.0, through es a.1 b.1)

-- the id that is put is named by the new object
pub put_shares : (old new : List Extent) (id : ℕ) (bytes : List ℕ) (entries : List (ℕ × StoredObject)) (n : ℕ) (kept : StoredObject)
    → IsStrictlySortedBy nat_cmp (keys_of entries) → Shares old entries → IsAdded old new id bytes → kept.id.0 ≡ id
    → SharesBut new (insert_entry nat_cmp entries n kept)
    (option_map (λ (k : StoredObject). k.id) (lookup (is_at (nat_cmp n)) entries))
put_shares old new id bytes entries n kept sorted shares added own k =
    let more = added.sharers k in
    let count = shares k in
    let both = count_inserted k entries n kept sorted in
    let same : ◌≡◌ {A = ℕ} (if eqb kept.id.0 k then 1 else 0) (if eqb id k then 1 else 0)
    = ap (λ (i : ℕ). if eqb i k then 1 else 0) own in
    omega (arith, more, count, both, same)

pub removed_shares : (live : List Extent) (entries : List (ℕ × StoredObject)) (test : ℕ → Bool) → Shares live entries
    → SharesBut live (remove_entry test entries) (option_map (λ (k : StoredObject). k.id) (lookup test entries))
removed_shares live entries test shares k = let count = shares k in let both = count_removed k entries test
    in omega (arith, count, both)

-- ---- identifiers

pub sids_kept : (schema : List SchemaRecord) (live : List Extent) (entries : List (ℕ × StoredObject))
    → HaveTheirSids schema (entries_kept live entries) → AllKept (λ (k : StoredObject). HasItsSid schema (entry_kept live k))
    entries
sids_kept schema live [] all = tt
sids_kept schema live (entry ∷ entries) all = (all.0, sids_kept schema live entries all.1)

pub sids_seen : (schema : List SchemaRecord) (live : List Extent) (entries : List (ℕ × StoredObject))
    → AllKept (λ (k : StoredObject). HasItsSid schema (entry_kept live k)) entries
    → HaveTheirSids schema (entries_kept live entries)
sids_seen schema live [] all = tt
sids_seen schema live (entry ∷ entries) all = (all.0, sids_seen schema live entries all.1)

pub none_shared : (live : List Extent) (entries : List (ℕ × StoredObject)) → live ≡ [] → entries ≡ [] → Shares live entries
unfolding sharers_at count_of extent_of
none_shared live entries none empty id = ap (λ (l : List Extent). sharers_at l id) none ∙ sym (ap (count_of id) empty)
