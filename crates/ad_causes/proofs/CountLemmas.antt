-- How often texts stand in a list, and what one list has more often than another.
use Rattle.std.proofs.Common.{◌≡◌, ◌∙◌, ◌+◌, ◌-◌, ◌<◌, ◌≤◌, ◌++◌, ◌∷◌, [], ℕ, zero, suc, Bool, true, false, Option, Some, None}
use Rattle.std.proofs.Common.{List, Bor, bytes_eq, length, take, drop, get_or, map, refl, sym, ap, subst, arith, append_assoc}
use Rattle.std.specs.Prelude.{if◌then◌else◌, filter, unwrap_or, ◌||◌, ◌==◌, not, Vec}
use Rattle.std.specs.declared.alloc.Global.{Global}
use Rattle.std.specs.Cmp.Lexicographic.{nat_list_eq_equiv}
use Rattle.std.proofs.lemmas.Bool.{false≢true}
use Rattle.std.proofs.lemmas.Bool.Decides.{nat_tests}
use Rattle.std.proofs.lemmas.List.{take_more, at_drop_more, map-append, append-nil, drop_all}
use Rattle.std.proofs.lemmas.Slice.Eq.{bytes_eq-Decides}
use Rattle.indexmap.specs.IndexMap.{IndexMap}
use Rattle.ad_causes.specs.Extra.{texts, has_text, taken, extra, count_of}
use Rattle.ad_causes.specs.Counts.{counted, IsNoted, AreCounts, IsKept, IsFinding}

pub same_bytes : (x : List ℕ) → bytes_eq x x ≡ true
same_bytes x = (bytes_eq-Decides x x).1 refl

-- ---- counts

abbrev bump : Bool → ℕ → ℕ
bump true n = suc n
bump false n = n

swap : (a b : Bool) (n : ℕ) → bump a (bump b n) ≡ bump b (bump a n)
swap true true n = refl
swap true false n = refl
swap false true n = refl
swap false false n = refl

count_cons : (x : List ℕ) (xs : List (List ℕ)) (text : List ℕ)
    → count_of (x ∷ xs) text ≡ bump (bytes_eq text x) (count_of xs text)
count_cons x xs text = by (bytes_eq text x)
  where
    by : (t : Bool) → length (if t then x ∷ filter (bytes_eq text) xs else filter (bytes_eq text) xs)
        ≡ bump t (length (filter (bytes_eq text) xs))
    by true = refl
    by false = refl

count_last : (done : List (List ℕ)) (x text : List ℕ)
    → count_of (done ++ (x ∷ [])) text ≡ bump (bytes_eq text x) (count_of done text)
count_last [] x text = count_cons x [] text
count_last (y ∷ ys) x text =
    count_cons y (ys ++ (x ∷ [])) text ∙ ap (bump (bytes_eq text y)) (count_last ys x text)
    ∙ swap (bytes_eq text y) (bytes_eq text x) (count_of ys text)
    ∙ ap (bump (bytes_eq text x)) (sym (count_cons y ys text))

pub none_counted : (all : List (List ℕ)) (text : List ℕ) → count_of all text ≡ 0 → has_text all text ≡ false
none_counted [] text is = refl
none_counted (x ∷ xs) text is = by (bytes_eq text x) (sym (count_cons x xs text) ∙ is) (none_counted xs text)
  where
    by : (t : Bool) → bump t (count_of xs text) ≡ 0 → (count_of xs text ≡ 0 → has_text xs text ≡ false)
        → (t || has_text xs text) ≡ false
    by true e rest = absurd (omega (arith, e))
    by false e rest = rest e

pub some_counted : (all : List (List ℕ)) (text : List ℕ) → 0 < count_of all text → has_text all text ≡ true
some_counted [] text is = absurd (omega (arith, is))
some_counted (x ∷ xs) text is = by (bytes_eq text x) (subst (λ (n : ℕ). 0 < n) (count_cons x xs text) is)
    (some_counted xs text)
  where
    by : (t : Bool) → 0 < bump t (count_of xs text) → (0 < count_of xs text → has_text xs text ≡ true)
        → (t || has_text xs text) ≡ true
    by true e rest = refl
    by false e rest = rest e

-- a list is one that is taken out, and what is left
count_split : (all : List (List ℕ)) (text other : List ℕ) → has_text all text ≡ true
    → count_of all other ≡ count_of (text ∷ taken text all) other
count_split [] text other has = absurd (false≢true has)
count_split (x ∷ xs) text other has = by (bytes_eq text x) refl has (count_split xs text other)
  where
    by : (t : Bool) → bytes_eq text x ≡ t → (t || has_text xs text) ≡ true
        → (has_text xs text ≡ true → count_of xs other ≡ count_of (text ∷ taken text xs) other)
        → count_of (x ∷ xs) other ≡ count_of (text ∷ (if t then xs else x ∷ taken text xs)) other
    by true e h rest = ap (λ (y : List ℕ). count_of (y ∷ xs) other) (sym ((bytes_eq-Decides text x).0 e))
    by false e h rest =
        let left = taken text xs in
        count_cons x xs other
        ∙ ap (bump (bytes_eq other x)) (rest h ∙ count_cons text left other)
        ∙ swap (bytes_eq other x) (bytes_eq other text) (count_of left other)
        ∙ ap (bump (bytes_eq other text)) (sym (count_cons x left other))
        ∙ sym (count_cons text (x ∷ left) other)

-- ---- what is extra

extra_new : (text : List ℕ) (more others : List (List ℕ)) → has_text others text ≡ false
    → extra (text ∷ more) others ≡ text ∷ extra more others
unfolding extra
extra_new text more others is =
    ap (λ (t : Bool). if t then extra more (taken text others) else text ∷ extra more others) is

extra_old : (text : List ℕ) (more others : List (List ℕ)) → has_text others text ≡ true
    → extra (text ∷ more) others ≡ extra more (taken text others)
unfolding extra
extra_old text more others is =
    ap (λ (t : Bool). if t then extra more (taken text others) else text ∷ extra more others) is

-- a list has nothing more than itself
pub extra_self : (all : List (List ℕ)) → extra all all ≡ []
unfolding extra
extra_self [] = refl
extra_self (x ∷ xs) =
    extra_old x xs (x ∷ xs) (ap (λ (t : Bool). t || has_text xs x) (same_bytes x))
    ∙ ap (λ (t : Bool). extra xs (if t then xs else x ∷ taken x xs)) (same_bytes x)
    ∙ extra_self xs

-- each of a list is in it
pub has_each : (all before after : List (List ℕ)) (text : List ℕ) → all ≡ before ++ (text ∷ after)
    → has_text all text ≡ true
has_each all [] after text is = ap (λ (l : List (List ℕ)). has_text l text) is
    ∙ ap (λ (t : Bool). t || has_text after text) (same_bytes text)
has_each all (x ∷ before) after text is = ap (λ (l : List (List ℕ)). has_text l text) is
    ∙ or_true (bytes_eq text x) (has_text (before ++ (text ∷ after)) text)
    (has_each (before ++ (text ∷ after)) before after text refl)
  where
    or_true : (a b : Bool) → b ≡ true → (a || b) ≡ true
    or_true true b e = refl
    or_true false b e = e

-- ---- tables

noted_or : (t : Bool) (count : ℕ) (old : Option ℕ)
    → unwrap_or (if t then Some count else old) 0 ≡ (if t then count else unwrap_or old 0)
noted_or true count old = refl
noted_or false count old = refl

pub is_noted : (t : Bool) (count : ℕ) (old new : Option ℕ) → new ≡ (if t then Some count else old)
    → unwrap_or new 0 ≡ (if t then count else unwrap_or old 0)
is_noted t count old new is = ap (λ (o : Option ℕ). unwrap_or o 0) is ∙ noted_or t count old

one_more : (t : Bool) (new own old : ℕ) → new ≡ (if t then own + 1 else old) → (t ≡ true → own ≡ old)
    → new ≡ bump t old
one_more true new own old is same = let e = same refl in omega (arith, is, e)
one_more false new own old is same = is

one_less : (t : Bool) (new own old left : ℕ) → new ≡ (if t then own - 1 else old) → (t ≡ true → own ≡ old)
    → old ≡ bump t left → new ≡ left
one_less true new own old left is same split = let e = same refl in omega (arith, is, e, split)
one_less false new own old left is same split = is ∙ split

module _ {S : Type 0} where
  -- where two texts are equal, so are their counts
  same_count : (table : IndexMap (Bor (List ℕ)) ℕ S) (x text : List ℕ) → bytes_eq x text ≡ true
      → counted table x ≡ counted table text
  same_count table x text e = ap (λ (y : List ℕ). counted table y) ((bytes_eq-Decides x text).0 e)

  pub counts_more : (table new : IndexMap (Bor (List ℕ)) ℕ S) (done : List (List ℕ)) (x : List ℕ)
      → AreCounts done table → IsNoted table new x (counted table x + 1) → AreCounts (done ++ (x ∷ [])) new
  counts_more table new done x are noted = λ text.
      one_more (bytes_eq x text) (counted new text) (counted table x) (counted table text) (noted text)
      (same_count table x text)
      ∙ ap (λ (t : Bool). bump t (counted table text)) (nat_list_eq_equiv.symm x text)
      ∙ ap (bump (bytes_eq text x)) (are text)
      ∙ sym (count_last done x text)

  -- a text that isn't noted is one more
  pub kept_new : (table : IndexMap (Bor (List ℕ)) ℕ S) (found new_found : List (Vec ℕ Global)) (text : List ℕ)
      → counted table text ≡ 0 → texts new_found ≡ texts found ++ (text ∷ [])
      → IsKept table table found new_found text
  kept_new table found new_found text never pushed = λ others are. (
    others,
    are,
    λ more. ap (λ (e : List (List ℕ)). texts found ++ e)
        (extra_new text more others (none_counted others text (sym (are text) ∙ never)))
        ∙ sym (append_assoc (texts found) (text ∷ []) (extra more others))
        ∙ ap (λ (f : List (List ℕ)). f ++ extra more others) (sym pushed),
  )

  -- one that is noted is taken out
  pub kept_old : (table new : IndexMap (Bor (List ℕ)) ℕ S) (found : List (Vec ℕ Global)) (text : List ℕ)
      → 0 < counted table text → IsNoted table new text (counted table text - 1)
      → IsKept table new found found text
  kept_old table new found text some noted = λ others are.
      let has = some_counted others text (subst (λ (n : ℕ). 0 < n) (are text) some) in (
        taken text others,
        λ other. one_less (bytes_eq text other) (counted new other) (counted table text) (counted table other)
            (count_of (taken text others) other) (noted other) (same_count table text other)
            (are other ∙ count_split others text other has ∙ count_cons text (taken text others) other
            ∙ ap (λ (t : Bool). bump t (count_of (taken text others) other)) (nat_list_eq_equiv.symm other text)),
        λ more. ap (λ (e : List (List ℕ)). texts found ++ e) (extra_old text more others has),
      )

-- ---- loops

pub texts_more : (all : List (Vec ℕ Global)) (i : ℕ) (item : Vec ℕ Global) (x : List ℕ) → i < length all
    → item ≡ get_or all i item → x ≡ item.items → texts (take i all) ++ (x ∷ []) ≡ texts (take (i + 1) all)
texts_more all i item x lt at is =
    ap (λ (y : List ℕ). texts (take i all) ++ (y ∷ [])) (is ∙ ap (λ (t : Vec ℕ Global). t.items) at)
    ∙ sym (map-append (λ (t : Vec ℕ Global). t.items) (take i all) (get_or all i item ∷ []))
    ∙ sym (ap texts (take_more all i item lt))

module _ {S : Type 0} where
  pub finding_more : (first second : List (List ℕ)) (table new : IndexMap (Bor (List ℕ)) ℕ S)
      (found new_found all : List (Vec ℕ Global)) (i : ℕ) (item : Vec ℕ Global) (x : List ℕ) → i < length all
      → item ≡ get_or all i item → x ≡ item.items
      → IsFinding first second table found (texts (drop i all)) → IsKept table new found new_found x
      → IsFinding first second new new_found (texts (drop (i + 1) all))
  finding_more first second table new found new_found all i item x lt at is finding kept =
      let left = finding.0 in
      let next = kept left finding.1 in
      let rest = texts (drop (i + 1) all) in
      let front : texts (drop i all) ≡ x ∷ rest =
      at_drop_more texts all i item lt ∙ ap (λ (y : List ℕ). y ∷ rest)
      (sym (is ∙ ap (λ (t : Vec ℕ Global). t.items) at)) in (
        next.0,
        next.1,
        finding.2 ∙ ap (λ (l : List (List ℕ)). texts found ++ extra l left) front ∙ next.2 rest,
      )

  pub finding_end : (first second : List (List ℕ)) (table : IndexMap (Bor (List ℕ)) ℕ S)
      (found all : List (Vec ℕ Global)) (i : ℕ) → length all ≤ i
      → IsFinding first second table found (texts (drop i all)) → texts found ≡ extra first second
  unfolding extra
  finding_end first second table found all i past finding =
      sym (finding.2 ∙ ap (λ (l : List (Vec ℕ Global)). texts found ++ extra (texts l) finding.0)
      (drop_all i all past) ∙ append-nil (texts found))

-- a text that is counted is there
pub counted_has : (all : List (List ℕ)) (text : List ℕ) (n : ℕ) → n ≡ count_of all text
    → not (n == 0) ≡ has_text all text
counted_has all text n is = by n refl
  where
    by : (m : ℕ) → n ≡ m → not (m == 0) ≡ has_text all text
    by zero e = sym (none_counted all text (sym is ∙ e))
    by (suc m) e =
        let some : not (suc m == 0) ≡ true = grind (arith, nat_tests) in
        some ∙ sym (some_counted all text (omega (arith, is, e)))
