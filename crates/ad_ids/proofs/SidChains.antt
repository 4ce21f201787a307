-- The index of a list of identifiers: it is made an identifier at a time, and a look-up passes over none that is
-- sought.
use Rattle.std.proofs.Common.{Bool, eqb, true, false, if◌then◌else◌, ◌≡◌, inl, inr, ℕ, zero, suc, ◌+◌, ◌-◌, ◌<◌, ◌≤◌}
use Rattle.std.proofs.Common.{List, [], ◌∷◌, ◌++◌, length, take, get_or, set, replicate, refl, sym, ap, subst, ◌∙◌}
use Rattle.std.proofs.Common.{arith}
use Rattle.std.specs.Prelude.{◌||◌}
use Rattle.std.specs.List.{list_any}
use Rattle.std.proofs.Math.Bool.{or-false}
use Rattle.std.proofs.lemmas.Bool.{cases_Bool, cases_lt, eqb-true}
use Rattle.std.proofs.lemmas.Bool.Decides.{nat_tests}
use Rattle.std.proofs.lemmas.List.{get_or-replicate, length-replicate, take_more, take_all, length-append}
use Rattle.std.proofs.lemmas.List.{get_or_append_left, get_or-append-add, get_or-set_same, get_or-set_other}
use Rattle.std.proofs.lemmas.List.Folds.{list_any-append}
use Rattle.std.proofs.Math.ListN.{length-set}
use Rattle.ad_ids.specs.SidValue.{SidValue, same_sid, contains_sid}
use Rattle.ad_ids.specs.SidIndex.{bucket_of_word, nobody, bucket_at, latest, IsIndexUpTo}
use Rattle.ad_ids.proofs.SidLaws.{same_sid-Decides}

-- ---- the bucket

pub bucket_small : (word : ℕ) → bucket_of_word word < 1024
bucket_small word = omega arith

-- ---- the last in a bucket

pub latest_le : (by : SidValue → ℕ) → (b : ℕ) (sids : List SidValue) (n : ℕ) → latest by b sids n ≤ n
latest_le by b sids zero = omega arith
latest_le by b sids (suc n) = by_test (eqb (bucket_at by sids n) b) (latest_le by b sids n)
  where
    by_test : (t : Bool) → latest by b sids n ≤ n → (if t then suc n else latest by b sids n) ≤ suc n
    by_test true le = omega arith
    by_test false le = omega (arith, le)

in_bucket : (by : SidValue → ℕ) → (b : ℕ) (sids : List SidValue) (n m : ℕ) (t : Bool)
    → (latest by b sids n ≡ suc m → bucket_at by sids m ≡ b) → eqb (bucket_at by sids n) b ≡ t
    → (if t then suc n else latest by b sids n) ≡ suc m → bucket_at by sids m ≡ b
in_bucket by b sids n m true before is e = let same : n ≡ m = omega (arith, e) in ap (bucket_at by sids) (sym same)
    ∙ eqb-true (bucket_at by sids n) b is
in_bucket by b sids n m false before is e = before e

-- it is in the bucket
pub latest_in : (by : SidValue → ℕ) → (b : ℕ) (sids : List SidValue) (n m : ℕ) → latest by b sids n ≡ suc m
    → bucket_at by sids m ≡ b
latest_in by b sids zero m e = absurd (omega (arith, e))
latest_in by b sids (suc n) m e = in_bucket by b sids n m (eqb (bucket_at by sids n) b) (latest_in by b sids n m) refl e

-- one more identifier before a place
contains_more : (sids : List SidValue) (sid : SidValue) (n : ℕ) → n < length sids
    → contains_sid (take (suc n) sids) sid ≡ contains_sid (take n sids) sid || same_sid (get_or sids n nobody) sid
contains_more sids sid n lt =
    let next : suc n ≡ n + 1 = omega arith in
    let test : SidValue → Bool = λ s. same_sid s sid in
    ap (λ (i : ℕ). list_any test (take i sids)) next
    ∙ ap (list_any test) (take_more sids n nobody lt)
    ∙ list_any-append test (take n sids) (get_or sids n nobody ∷ [])
    ∙ ap (λ (t : Bool). list_any test (take n sids) || t) (or-false (same_sid (get_or sids n nobody) sid))

-- one of another bucket is another
pub other_bucket : (by : SidValue → ℕ) → (s sid : SidValue) → eqb (by s) (by sid) ≡ false → same_sid s sid ≡ false
other_bucket by s sid e = elim (cases_Bool (same_sid s sid)) [
  | inl same ↦
      let one : s ≡ sid = (same_sid-Decides s sid).0 same in
      let buckets : by s ≡ by sid = ap by one in
      absurd (grind (arith, nat_tests, buckets, e))
  | inr apart ↦ apart
]

skipped : (by : SidValue → ℕ) → (sids : List SidValue) (sid : SidValue) (n : ℕ) (t : Bool) → n < length sids
    → contains_sid (take n sids) sid ≡ contains_sid (take (latest by (by sid) sids n) sids) sid
    → eqb (bucket_at by sids n) (by sid) ≡ t
    → contains_sid (take (suc n) sids) sid ≡ contains_sid (take (if t then suc n else latest by (by sid) sids n) sids)
    sid
skipped by sids sid n true lt before is = refl
skipped by sids sid n false lt before is =
    contains_more sids sid n lt
    ∙ ap (λ (t : Bool). contains_sid (take n sids) sid || t) (other_bucket by (get_or sids n nobody) sid is)
    ∙ or-false (contains_sid (take n sids) sid)
    ∙ before

-- none after the last of its bucket is the one that is sought
pub latest_skips : (by : SidValue → ℕ) → (sids : List SidValue) (sid : SidValue) (n : ℕ) → n ≤ length sids
    → contains_sid (take n sids) sid ≡ contains_sid (take (latest by (by sid) sids n) sids) sid
latest_skips by sids sid zero le = refl
latest_skips by sids sid (suc n) le = skipped by sids sid n (eqb (bucket_at by sids n) (by sid)) (omega (arith, le))
    (latest_skips by sids sid n (omega (arith, le))) refl

-- ---- looking up

-- what is sought is not after this end, before which stands one of its bucket
pub record IsChainFrom (by : SidValue → ℕ) (end : ℕ) (sids : List SidValue) (sid : SidValue) : Type 0 where
  pub within : end ≤ length sids
  pub bucket : (m : ℕ) → end ≡ suc m → bucket_at by sids m ≡ by sid
  pub before : contains_sid sids sid ≡ contains_sid (take end sids) sid

-- where the list ends the last of the bucket is
chain_at : (by : SidValue → ℕ) → (sids : List SidValue) (sid : SidValue) (n : ℕ) → n ≤ length sids
    → contains_sid sids sid ≡ contains_sid (take n sids) sid → IsChainFrom by (latest by (by sid) sids n) sids sid
chain_at by sids sid n le so_far = record {
  within = omega (arith, latest_le by (by sid) sids n, le);
  bucket = λ m e. latest_in by (by sid) sids n m e;
  before = so_far ∙ latest_skips by sids sid n le;
}

pub chain_starts : (by : SidValue → ℕ) → (heads before : List ℕ) (sids : List SidValue) (sid : SidValue) (end : ℕ)
    → IsIndexUpTo by (length sids) heads before sids → by sid < 1024 → end ≡ get_or heads (by sid) 0 → IsChainFrom
    by end sids sid
chain_starts by heads before sids sid end h below is =
    subst (λ (e : ℕ). IsChainFrom by e sids sid) (sym (is ∙ h.heads_are (by sid) below))
    (chain_at by sids sid (length sids) (omega arith)
    (ap (λ (l : List SidValue). contains_sid l sid) (sym (take_all (length sids) sids (omega arith)))))

pub chain_goes_on : (by : SidValue → ℕ) → (heads before : List ℕ) (sids : List SidValue) (sid : SidValue)
    (end next : ℕ) → IsIndexUpTo by (length sids) heads before sids → 0 < end → IsChainFrom by end sids sid
    → same_sid (get_or sids (end - 1) nobody) sid ≡ false → next ≡ get_or before (end - 1) 0 → IsChainFrom
    by next sids sid × (next < end)
chain_goes_on by heads before sids sid end next h some c apart is =
    let m = end - 1 in
    let more : end ≡ suc m = omega (arith, some) in
    let within : end ≤ length sids = c.within in
    let lt : m < length sids = omega (arith, some, within) in
    let chained : next ≡ latest by (by sid) sids m = is ∙ h.before_are m lt ∙ ap (λ (b : ℕ). latest by b sids m)
    (c.bucket m more) in
    let shorter : contains_sid sids sid ≡ contains_sid (take m sids) sid =
    c.before ∙ ap (λ (i : ℕ). contains_sid (take i sids) sid) more ∙ contains_more sids sid m lt
    ∙ ap (λ (t : Bool). contains_sid (take m sids) sid || t) apart ∙ or-false (contains_sid (take m sids) sid) in (
      subst (λ (e : ℕ). IsChainFrom by e sids sid) (sym chained) (chain_at by sids sid m (omega (arith, lt)) shorter),
      omega (arith, chained, latest_le by (by sid) sids m, more),
    )

or_true : (b : Bool) → (b || true) ≡ true
or_true true = refl
or_true false = refl

pub found_in_chain : (by : SidValue → ℕ) → (sids : List SidValue) (sid : SidValue) (end : ℕ) → 0 < end → IsChainFrom
    by end sids sid → same_sid (get_or sids (end - 1) nobody) sid ≡ true → true ≡ contains_sid sids sid
found_in_chain by sids sid end some c same =
    let m = end - 1 in
    let more : end ≡ suc m = omega (arith, some) in
    let within : end ≤ length sids = c.within in
    let lt : m < length sids = omega (arith, some, within) in
    sym (c.before ∙ ap (λ (i : ℕ). contains_sid (take i sids) sid) more ∙ contains_more sids sid m lt
    ∙ ap (λ (t : Bool). contains_sid (take m sids) sid || t) same ∙ or_true (contains_sid (take m sids) sid))

pub chain_ends : (by : SidValue → ℕ) → (sids : List SidValue) (sid : SidValue) (end : ℕ) → end < 1 → IsChainFrom
    by end sids sid → false ≡ contains_sid sids sid
chain_ends by sids sid end none c =
    let zero_is : end ≡ 0 = omega (arith, none) in
    sym (c.before ∙ ap (λ (i : ℕ). contains_sid (take i sids) sid) zero_is)

-- ---- making

pub index_starts : (by : SidValue → ℕ) → (heads before : List ℕ) (sids : List SidValue) → heads ≡ replicate 1024 0
    → before ≡ [] → IsIndexUpTo by 0 heads before sids
index_starts by heads before sids zeros none = record {
  buckets = ap length zeros ∙ length-replicate {A = ℕ} 1024 0;
  places = ap length none;
  heads_are = λ b lt. ap (λ (h : List ℕ). get_or h b 0) zeros ∙ get_or-replicate 1024 b 0 0 lt;
  before_are = λ place lt. absurd (omega (arith, lt));
}

pub index_more : (by : SidValue → ℕ) → (n b end : ℕ) (heads before : List ℕ) (sids : List SidValue) → b ≡ bucket_at
    by sids n → b < 1024 → end ≡ n + 1 → IsIndexUpTo by n heads before sids
    → IsIndexUpTo by (n + 1) (set heads b end) (before ++ get_or heads b 0 ∷ []) sids
index_more by n b end heads before sids is below one h = record {
  buckets = length-set heads b end ∙ h.buckets;
  places = omega (arith, length-append before (get_or heads b 0 ∷ []), h.places);
  heads_are = heads_kept;
  before_are = before_kept;
}
  where
    next : suc n ≡ n + 1
    next = omega arith

    heads_kept : (c : ℕ) → c < 1024 → get_or (set heads b end) c 0 ≡ latest by c sids (n + 1)
    heads_kept c lt = elim (cases_Bool (eqb (bucket_at by sids n) c)) [
      | inl same ↦
          let here : c ≡ b = sym (eqb-true (bucket_at by sids n) c same) ∙ sym is in
          let room : b < length heads = omega (arith, below, h.buckets) in
          ap (λ (i : ℕ). get_or (set heads b end) i 0) here ∙ get_or-set_same heads b end 0 room ∙ one ∙ sym next
          ∙ ap (λ (t : Bool). if t then suc n else latest by c sids n) (sym same) ∙ ap (latest by c sids) next
      | inr other ↦
          let apart : (c ≡ b → ⊥) = λ e. grind (arith, nat_tests, other, is, e) in
          get_or-set_other heads b c end 0 apart ∙ h.heads_are c lt
          ∙ ap (λ (t : Bool). if t then suc n else latest by c sids n) (sym other) ∙ ap (latest by c sids) next
    ]

    before_kept : (place : ℕ) → place < n + 1 → get_or (before ++ get_or heads b 0 ∷ []) place 0 ≡ latest
        by (bucket_at by sids place) sids place
    before_kept place lt = elim (cases_lt place n) [
      | inl earlier ↦ get_or_append_left before (get_or heads b 0 ∷ []) 0 place (omega (arith, earlier, h.places))
          ∙ h.before_are place earlier
      | inr last ↦
          let here : place ≡ length before + 0 = omega (arith, last, lt, h.places) in
          let at_n : n ≡ place = omega (arith, last, lt) in
          ap (λ (i : ℕ). get_or (before ++ get_or heads b 0 ∷ []) i 0) here ∙ get_or-append-add before
          (get_or heads b 0 ∷ []) 0 0
          ∙ h.heads_are b below ∙ ap (λ (c : ℕ). latest by c sids n) is
          ∙ ap (λ (i : ℕ). latest by (bucket_at by sids i) sids i) at_n
    ]
