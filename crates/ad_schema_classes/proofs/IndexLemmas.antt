-- The places of names by their hashes.
use Rattle.std.proofs.Common.{◌≡◌, ℕ, zero, suc, ◌+◌, ◌*◌, ◌%◌, ◌<◌, ◌≤◌, ◌↔◌, Bool, true, false, ◌==◌, ◌||◌, cond}
use Rattle.std.proofs.Common.{ltb, if◌then◌else◌, List, [], ◌∷◌, ◌++◌, length, drop, map, get_or, refl, sym, ap}
use Rattle.std.proofs.Common.{subst, ◌∙◌, Option, Some, None, append_assoc, arith}
use Rattle.std.specs.Prelude.{find, position, slice_get, nat_eq}
use Rattle.std.specs.Char.{to_ascii_lowercase}
use Rattle.std.specs.declared.hash.DefaultHasher.{DefaultHasher}
use Rattle.std.specs.Hash.DefaultHasher.{write_byte, initial, write, finish}
use Rattle.std.specs.List.{position_or_len, list_any}
use Rattle.std.specs.Option.{option_map, option_and_then, is_some}
use Rattle.std.specs.Str.{bytes_eq}
use Rattle.std.proofs.lemmas.Bool.Decides.{same_from_decides, nat_tests}
use Rattle.std.proofs.lemmas.List.{append-nil, length_push, at_drop_more, at_drop_all}
use Rattle.std.proofs.lemmas.Slice.Eq.{bytes_eq-Decides}
use Rattle.indexmap.specs.IndexMap.{IndexMap, get}
use Rattle.ad_schema_classes.specs.Names.{same_name}
use Rattle.ad_schema_classes.specs.Hashes.{hash_behind, hash_of, bucket, same_by, place_by, is_at, key, IsIndexOf}
use Rattle.ad_schema_classes.specs.declared.names.Case.{Case}
use Rattle.ad_schema_classes.specs.declared.names.Case.TheVariants.{Ignored, Kept}

pub same_name_is : (same : Bool) (a b : List ℕ)
    → ((same ≡ true) ↔ (map to_ascii_lowercase a ≡ map to_ascii_lowercase b)) → same ≡ same_name a b
unfolding same_name
same_name_is same a b test = same_from_decides _ _ (test.0, test.1)
    (bytes_eq-Decides (map to_ascii_lowercase a) (map to_ascii_lowercase b))

-- ---- names that are the same have one hash

hash_lowered : DefaultHasher → List ℕ → DefaultHasher
hash_lowered state [] = state
hash_lowered state (c ∷ cs) = hash_lowered (write state (c ∷ [])) cs

lowers : (state : DefaultHasher) (name : List ℕ) → hash_behind state name
    ≡ hash_lowered state (map to_ascii_lowercase name)
unfolding hash_behind hash_lowered
lowers state [] = refl
lowers state (b ∷ name) = lowers (write state (to_ascii_lowercase b ∷ [])) name

pub same_hash : (a b : List ℕ) → same_name a b ≡ true → hash_of a ≡ hash_of b
unfolding same_name hash_of
same_hash a b same =
    let states : hash_behind initial a ≡ hash_behind initial b = lowers initial a ∙ ap (hash_lowered initial)
    ((bytes_eq-Decides (map to_ascii_lowercase a) (map to_ascii_lowercase b)).0 same) ∙ sym (lowers initial b) in
    ap (λ (state : DefaultHasher). finish state % 4294967296) states

pub hash_by : (case : Case) (a b : List ℕ) → same_by case a b ≡ true → hash_of a ≡ hash_of b
hash_by Ignored a b same = same_hash a b same
hash_by Kept a b same = ap hash_of ((bytes_eq-Decides a b).0 same)

-- ---- the first place of a name

pub same_itself : (name : List ℕ) → same_name name name ≡ true
unfolding same_name
same_itself name = (bytes_eq-Decides (map to_ascii_lowercase name) (map to_ascii_lowercase name)).1 refl

pub place_none : (case : Case) (name : List ℕ) → place_by case [] name ≡ None
unfolding place_by
place_none case name = refl

pub position_here : {A : Type 0} (p : A → Bool) (x : A) (xs : List A) → p x ≡ true → position p (x ∷ xs) ≡ Some 0
position_here p x xs is = let lt : ltb 0 (suc (length xs)) ≡ true = grind (arith, nat_tests) in rw (is, lt) refl

one_on : (m n : ℕ) → cond (ltb (1 + m) (suc n)) (Some (1 + m)) None ≡ option_map (λ k. suc k)
    (cond (ltb m n) (Some m) None)
one_on m n = by_test (ltb m n) refl
  where
    by_test : (test : Bool) → ltb m n ≡ test → cond (ltb (1 + m) (suc n)) (Some (1 + m)) None
        ≡ option_map (λ k. suc k) (cond test (Some m) None)
    by_test true is = let more : ltb (1 + m) (suc n) ≡ true = grind (arith, nat_tests) in let next : 1 + m ≡ suc m
        = omega arith in rw (more, next) refl
    by_test false is = let more : ltb (1 + m) (suc n) ≡ false = grind (arith, nat_tests) in rw more refl

pub position_next : {A : Type 0} (p : A → Bool) (x : A) (xs : List A) → p x ≡ false → position p (x ∷ xs)
    ≡ option_map (λ k. suc k) (position p xs)
position_next p x xs is = rw is (one_on (position_or_len p xs) (length xs))

pub place_here : (case : Case) (x name : List ℕ) (names : List (List ℕ)) → same_by case x name ≡ true
    → place_by case (x ∷ names) name ≡ Some 0
unfolding place_by
place_here case x name names same = position_here (λ y. same_by case y name) x names same

pub place_behind : (case : Case) (x name : List ℕ) (names : List (List ℕ)) → same_by case x name ≡ false
    → place_by case (x ∷ names) name ≡ option_map (λ k. suc k) (place_by case names name)
unfolding place_by
place_behind case x name names other = position_next (λ y. same_by case y name) x names other

-- ---- what a bucket has

at_front : (front : List (List ℕ)) (x : List ℕ) (names : List (List ℕ)) → slice_get (front ++ x ∷ names)
    (length front) ≡ Some x
at_front [] x names = refl
at_front (y ∷ front) x names = at_front front x names

test_front : (case : Case) (front : List (List ℕ)) (x name : List ℕ) (names : List (List ℕ))
    → is_at case (front ++ x ∷ names) name (length front) ≡ same_by case x name
unfolding is_at
test_front case front x name names = rw (at_front front x names) refl

-- the first place of a bucket that has the name is the first place of the name
finds : (case : Case) (name : List ℕ) (front names : List (List ℕ)) → find (is_at case (front ++ names) name)
    (bucket (hash_of name) (length front) names) ≡ option_map (λ k. length front + k) (place_by case names name)
unfolding bucket
finds case name front [] = sym (ap (option_map (λ k. length front + k)) (place_none case name))
finds case name front (x ∷ names) = by_test (finds case name (front ++ x ∷ []) names) (same_by case x name) refl
  where
    moved : find (is_at case ((front ++ x ∷ []) ++ names) name)
        (bucket (hash_of name) (length (front ++ x ∷ [])) names) ≡ option_map (λ k. length (front ++ x ∷ []) + k)
        (place_by case names name)
        → find (is_at case (front ++ x ∷ names) name) (bucket (hash_of name) (length front + 1) names)
        ≡ option_map (λ k. length front + 1 + k) (place_by case names name)
    moved rest =
        let long : length (front ++ x ∷ []) ≡ length front + 1 = length_push front x in
        let all : (front ++ x ∷ []) ++ names ≡ front ++ x ∷ names = append_assoc front (x ∷ []) names in
        subst (λ (l : List (List ℕ)). find (is_at case l name) (bucket (hash_of name) (length front + 1) names)
        ≡ option_map (λ k. length front + 1 + k) (place_by case names name)) all
        (subst (λ (n : ℕ). find (is_at case ((front ++ x ∷ []) ++ names) name) (bucket (hash_of name) n names)
        ≡ option_map (λ k. n + k) (place_by case names name)) long rest)

    shifted : (found : Option ℕ) → option_map (λ k. length front + 1 + k) found ≡ option_map (λ k. length front + k)
        (option_map (λ k. suc k) found)
    shifted None = refl
    shifted (Some k) = ap Some (omega arith)

    skips : (hashed : Bool) → is_at case (front ++ x ∷ names) name (length front) ≡ false
        → find (is_at case (front ++ x ∷ names) name)
        (if hashed then length front ∷ bucket (hash_of name) (length front + 1) names else bucket (hash_of name)
        (length front + 1) names) ≡ find (is_at case (front ++ x ∷ names) name)
        (bucket (hash_of name) (length front + 1) names)
    skips true not = rw not refl
    skips false not = refl

    by_test : find (is_at case ((front ++ x ∷ []) ++ names) name)
        (bucket (hash_of name) (length (front ++ x ∷ [])) names) ≡ option_map (λ k. length (front ++ x ∷ []) + k)
        (place_by case names name)
        → (same : Bool) → same_by case x name ≡ same → find (is_at case (front ++ x ∷ names) name)
        (if hash_of x == hash_of name then length front ∷ bucket (hash_of name) (length front + 1) names
        else bucket (hash_of name) (length front + 1) names) ≡ option_map (λ k. length front + k)
        (place_by case (x ∷ names) name)
    by_test rest true is =
        let hashed : (hash_of x == hash_of name) ≡ true = rw (hash_by case x name is) (grind (arith, nat_tests)) in
        let here : is_at case (front ++ x ∷ names) name (length front) ≡ true = test_front case front x name names
        ∙ is in
        rw (hashed, here, place_here case x name names is) (ap Some (omega arith))
    by_test rest false is =
        skips (hash_of x == hash_of name) (test_front case front x name names ∙ is) ∙ moved rest
        ∙ shifted (place_by case names name) ∙ ap (option_map (λ k. length front + k))
        (sym (place_behind case x name names is))

pub bucket_finds : (case : Case) (name : List ℕ) (names : List (List ℕ)) → find (is_at case names name)
    (bucket (hash_of name) 0 names) ≡ place_by case names name
bucket_finds case name names = finds case name [] names ∙ same (place_by case names name)
  where
    same : (found : Option ℕ) → option_map (λ k. 0 + k) found ≡ found
    same None = refl
    same (Some k) = ap Some (omega arith)

-- ---- a walk over a bucket

pub bucket_few : (hash n : ℕ) (names : List (List ℕ)) → length (bucket hash n names) ≤ length names
unfolding bucket
bucket_few hash n [] = omega arith
bucket_few hash n (name ∷ names) = by_test (bucket_few hash (n + 1) names) (hash_of name == hash)
  where
    by_test : length (bucket hash (n + 1) names) ≤ length names → (test : Bool)
        → length (if test then n ∷ bucket hash (n + 1) names else bucket hash (n + 1) names) ≤ suc (length names)
    by_test few true = omega (arith, few)
    by_test few false = omega (arith, few)

pub walk_more : (xs : List ℕ) (n x : ℕ) → slice_get xs n ≡ Some x → drop n xs ≡ x ∷ drop (n + 1) xs
walk_more xs n x is = let next : n + 1 ≡ suc n = omega arith in rw next (by_place xs n is)
  where
    by_place : (xs : List ℕ) (n : ℕ) → slice_get xs n ≡ Some x → drop n xs ≡ x ∷ drop (suc n) xs
    by_place [] n is = absurd cc
    by_place (y ∷ ys) zero is = let e : y ≡ x = cc in ap (λ (z : ℕ). z ∷ ys) e
    by_place (y ∷ ys) (suc n) is = by_place ys n is

pub walk_end : (xs : List ℕ) (n : ℕ) → slice_get xs n ≡ None → drop n xs ≡ []
walk_end [] zero is = refl
walk_end [] (suc n) is = refl
walk_end (y ∷ ys) zero is = absurd cc
walk_end (y ∷ ys) (suc n) is = walk_end ys n is

pub end_length : (xs : List ℕ) (n : ℕ) → slice_get xs n ≡ None → length xs ≤ n
end_length [] n is = omega arith
end_length (y ∷ ys) zero is = absurd cc
end_length (y ∷ ys) (suc n) is = let le = end_length ys n is in omega arith

-- ---- a name more

bucket_push : (hash n : ℕ) (names : List (List ℕ)) (name : List ℕ) → bucket hash n (names ++ name ∷ [])
    ≡ bucket hash n names ++ (if hash_of name == hash then (n + length names) ∷ [] else [])
unfolding bucket
bucket_push hash n [] name = by_test (hash_of name == hash)
  where
    by_test : (test : Bool) → (if test then n ∷ [] else []) ≡ (if test then (n + 0) ∷ [] else [])
    by_test true = ap (λ (k : ℕ). k ∷ []) (omega arith)
    by_test false = refl
bucket_push hash n (first ∷ names) name =
    let same : n + 1 + length names ≡ n + suc (length names) = omega arith in
    let more : bucket hash (n + 1) (names ++ name ∷ []) ≡ bucket hash (n + 1) names
    ++ (if hash_of name == hash then (n + suc (length names)) ∷ [] else []) =
    subst (λ (k : ℕ). bucket hash (n + 1) (names ++ name ∷ []) ≡ bucket hash (n + 1) names
    ++ (if hash_of name == hash then k ∷ [] else [])) same (bucket_push hash (n + 1) names name) in
    by_test (hash_of first == hash) _ _ _ more
  where
    by_test : (test : Bool) (all rest last : List ℕ) → all ≡ rest ++ last → (if test then n ∷ all else all)
        ≡ (if test then n ∷ rest else rest) ++ last
    by_test true all rest last e = ap (λ (l : List ℕ). n ∷ l) e
    by_test false all rest last e = e

get_at : (xs : List ℕ) (x n : ℕ) → n ≡ length xs → slice_get (xs ++ x ∷ []) n ≡ Some x
get_at [] x n is = rw is refl
get_at (y ∷ ys) x zero is = absurd (omega (arith, is))
get_at (y ∷ ys) x (suc n) is = get_at ys x n (omega (arith, is))

get_off : (xs : List ℕ) (x n : ℕ) → (n ≡ length xs → ⊥) → slice_get (xs ++ x ∷ []) n ≡ slice_get xs n
get_off [] x zero not = absurd (not refl)
get_off [] x (suc n) not = refl
get_off (y ∷ ys) x zero not = refl
get_off (y ∷ ys) x (suc n) not = get_off ys x n (λ e. not (ap (λ (k : ℕ). suc k) e))

get_push : (xs : List ℕ) (x n : ℕ) → slice_get (xs ++ x ∷ []) n ≡ cond (length xs == n) (Some x) (slice_get xs n)
get_push xs x n = by_test (length xs == n) refl
  where
    differ : n ≡ length xs → (length xs == n) ≡ false → ⊥
    differ e is = let same : (length xs == n) ≡ true = grind (arith, nat_tests) in let no : true ≡ false = sym same
        ∙ is in cc

    by_test : (test : Bool) → (length xs == n) ≡ test → slice_get (xs ++ x ∷ []) n ≡ cond test (Some x) (slice_get xs n)
    by_test true is = get_at xs x n (grind (arith, nat_tests))
    by_test false is = get_off xs x n (λ e. absurd (differ e is))

same_key : (h hash n m long : ℕ) → h ≡ hash → n ≡ long → (key h n == key hash m) ≡ (long == m)
same_key h hash n m long one two = rw (one, two) (by_test (long == m) refl)
  where
    by_test : (test : Bool) → (long == m) ≡ test → (key hash long == key hash m) ≡ test
    by_test true is = let same : long ≡ m = grind (arith, nat_tests) in rw same (grind (arith, nat_tests))
    by_test false is = grind (arith, nat_tests)

other_key : (h hash n m : ℕ) → n < 4294967296 → m < 4294967296 → (h == hash) ≡ false → (key h n == key hash m) ≡ false
other_key h hash n m low lt other = by_test (key h n == key hash m) refl
  where
    by_test : (test : Bool) → (key h n == key hash m) ≡ test → test ≡ false
    by_test false is = refl
    by_test true is =
        let keys : key h n ≡ key hash m = grind (arith, nat_tests) in
        let same : h ≡ hash = omega arith in
        let yes_is : (h == hash) ≡ true = grind (arith, nat_tests) in
        let no_is : true ≡ false = sym yes_is ∙ other in
        absurd cc

-- the index with a name more
pub noted : {S : Type 0} (names : List (List ℕ)) (old new : IndexMap ℕ ℕ S) (name : List ℕ) (n : ℕ)
    → IsIndexOf names old → n ≡ length (bucket (hash_of name) 0 names) → length names < 4294967295
    → ((q : ℕ) → get nat_eq new q ≡ cond (nat_eq (key (hash_of name) n) q) (Some (length names)) (get nat_eq old q))
    → IsIndexOf (names ++ name ∷ []) new
noted names old new name n index is few updates
    = record { found = λ hash m lt. by_hash hash m lt (hash_of name == hash) refl }
  where
    by_hash : (hash m : ℕ) → m < 4294967296 → (test : Bool) → (hash_of name == hash) ≡ test
        → get nat_eq new (key hash m) ≡ slice_get (bucket hash 0 (names ++ name ∷ [])) m
    by_hash hash m lt true same =
        let small : n < 4294967296 = omega (arith, is, few, bucket_few (hash_of name) 0 names) in
        let one : hash_of name ≡ hash = grind (arith, nat_tests) in
        let none : 0 + length names ≡ length names = omega arith in
        let longer : bucket hash 0 (names ++ name ∷ []) ≡ bucket hash 0 names ++ length names ∷ []
        = rw (same, none) at (bucket_push hash 0 names name) in
        let keys : (key (hash_of name) n == key hash m) ≡ (length (bucket hash 0 names) == m)
        = same_key (hash_of name) hash n m (length (bucket hash 0 names)) one
        (is ∙ ap (λ (h : ℕ). length (bucket h 0 names)) one) in
        updates (key hash m) ∙ rw (
          longer,
          get_push (bucket hash 0 names) (length names) m,
          keys,
          index.found hash m
              lt,
        ) refl
    by_hash hash m lt false same =
        let small : n < 4294967296 = omega (arith, is, few, bucket_few (hash_of name) 0 names) in
        let longer : bucket hash 0 (names ++ name ∷ []) ≡ bucket hash 0 names
        = rw same at (bucket_push hash 0 names name) ∙ append-nil (bucket hash 0 names) in
        let keys : (key (hash_of name) n == key hash m) ≡ false = other_key (hash_of name) hash n m small lt same in
        updates (key hash m) ∙ rw (keys, longer) (index.found hash m lt)

pub no_names : {S : Type 0} (places : IndexMap ℕ ℕ S) → places.entries ≡ [] → IsIndexOf [] places
unfolding bucket
no_names places empty = record { found = λ hash n lt. rw empty refl }

-- ---- hashing, byte by byte

pub hash_more : (state new : DefaultHasher) (name : List ℕ) (i : ℕ) → i < length name → new
    ≡ write state (to_ascii_lowercase (get_or name i 0) ∷ []) → hash_behind state (drop i name)
    ≡ hash_behind new (drop (i + 1) name)
unfolding hash_behind
hash_more state new name i lt is = at_drop_more (hash_behind state) name i 0 lt
    ∙ ap (λ (h : DefaultHasher). hash_behind h (drop (i + 1) name)) (sym is)

hash_next : (state : DefaultHasher) (name : List ℕ) (i j b : ℕ) → i < length name → j ≡ i + 1 → b
    ≡ to_ascii_lowercase (get_or name i 0) → hash_behind state (drop i name) ≡ hash_behind (write_byte state b)
    (drop j name)
unfolding write
hash_next state name i j b lt next is =
    rw next (hash_more state (write_byte state b) name i lt (ap (write_byte state) is))

-- eight bytes at once are the same as one by one
pub hash_eight : (state new : DefaultHasher) (name : List ℕ) (i b0 b1 b2 b3 b4 b5 b6 b7 : ℕ) → i + 8 ≤ length name
    → new ≡ write state (b0 ∷ b1 ∷ b2 ∷ b3 ∷ b4 ∷ b5 ∷ b6 ∷ b7 ∷ [])
    → b0 ≡ to_ascii_lowercase (get_or name i 0) → b1 ≡ to_ascii_lowercase (get_or name (i + 1) 0) → b2
    ≡ to_ascii_lowercase (get_or name (i + 2) 0) → b3 ≡ to_ascii_lowercase (get_or name (i + 3) 0)
    → b4 ≡ to_ascii_lowercase (get_or name (i + 4) 0) → b5 ≡ to_ascii_lowercase (get_or name (i + 5) 0) → b6
    ≡ to_ascii_lowercase (get_or name (i + 6) 0) → b7 ≡ to_ascii_lowercase (get_or name (i + 7) 0)
    → hash_behind new (drop (i + 8) name) ≡ hash_behind state (drop i name)
unfolding write
hash_eight state new name i b0 b1 b2 b3 b4 b5 b6 b7 le is e0 e1 e2 e3 e4 e5 e6 e7 =
    let s1 = write_byte state b0 in
    let s2 = write_byte s1 b1 in
    let s3 = write_byte s2 b2 in
    let s4 = write_byte s3 b3 in
    let s5 = write_byte s4 b4 in
    let s6 = write_byte s5 b5 in
    let s7 = write_byte s6 b6 in
    ap (λ (h : DefaultHasher). hash_behind h (drop (i + 8) name)) is
    ∙ sym (hash_next state name i (i + 1) b0 (omega (arith, le)) (omega arith) e0
    ∙ hash_next s1 name (i + 1) (i + 2) b1 (omega (arith, le)) (omega arith) e1
    ∙ hash_next s2 name (i + 2) (i + 3) b2 (omega (arith, le)) (omega arith) e2
    ∙ hash_next s3 name (i + 3) (i + 4) b3 (omega (arith, le)) (omega arith) e3
    ∙ hash_next s4 name (i + 4) (i + 5) b4 (omega (arith, le)) (omega arith) e4
    ∙ hash_next s5 name (i + 5) (i + 6) b5 (omega (arith, le)) (omega arith) e5
    ∙ hash_next s6 name (i + 6) (i + 7) b6 (omega (arith, le)) (omega arith) e6
    ∙ hash_next s7 name (i + 7) (i + 8) b7 (omega (arith, le)) (omega arith) e7)

pub hash_end : (state : DefaultHasher) (name : List ℕ) (i : ℕ) → length name ≤ i → hash_behind state (drop i name)
    ≡ state
unfolding hash_behind
hash_end state name i le = at_drop_all (hash_behind state) name i le

-- ---- a walk over a bucket that is looked for a name

pub walks_here : (case : Case) (names : List (List ℕ)) (name : List ℕ) (bucket : List ℕ) (n place : ℕ)
    → slice_get bucket n ≡ Some place → is_at case names name place ≡ true → find (is_at case names name)
    (drop n bucket) ≡ Some place
walks_here case names name bucket n place is here = rw (walk_more bucket n place is, here) refl

pub walks_on : (case : Case) (names : List (List ℕ)) (name : List ℕ) (bucket : List ℕ) (n place : ℕ)
    → slice_get bucket n ≡ Some place → is_at case names name place ≡ false → find (is_at case names name)
    (drop n bucket) ≡ find (is_at case names name) (drop (n + 1) bucket)
walks_on case names name bucket n place is not = rw (walk_more bucket n place is, not) refl

pub walks_out : (case : Case) (names : List (List ℕ)) (name : List ℕ) (bucket : List ℕ) (n : ℕ) → slice_get bucket n
    ≡ None → find (is_at case names name) (drop n bucket) ≡ None
walks_out case names name bucket n is = rw (walk_end bucket n is) refl

pub walks_past : (case : Case) (names : List (List ℕ)) (name : List ℕ) (bucket : List ℕ) (n : ℕ) → length bucket ≤ n
    → find (is_at case names name) (drop n bucket) ≡ None
walks_past case names name bucket n le = at_drop_all (find (is_at case names name)) bucket n le

-- ---- what a list of values has, by the names of its elements

pub found_by : {A : Type 0} (f : A → List ℕ) (name : List ℕ) (xs : List A) → option_and_then (slice_get xs)
    (place_by Kept (map f xs) name) ≡ find (λ x. bytes_eq (f x) name) xs
found_by f name [] = rw (place_none Kept name) refl
found_by f name (x ∷ xs) = by_test (found_by f name xs) (bytes_eq (f x) name) refl
  where
    behind : (place : Option ℕ) → option_and_then (slice_get (x ∷ xs)) (option_map (λ k. suc k) place)
        ≡ option_and_then (slice_get xs) place
    behind None = refl
    behind (Some k) = refl

    by_test : option_and_then (slice_get xs) (place_by Kept (map f xs) name) ≡ find (λ y. bytes_eq (f y) name) xs
        → (test : Bool) → bytes_eq (f x) name ≡ test
        → option_and_then (slice_get (x ∷ xs)) (place_by Kept (f x ∷ map f xs) name)
        ≡ cond test (Some x) (find (λ y. bytes_eq (f y) name) xs)
    by_test rest true is = ap (option_and_then (slice_get (x ∷ xs))) (place_here Kept (f x) name (map f xs) is)
    by_test rest false is = ap (option_and_then (slice_get (x ∷ xs))) (place_behind Kept (f x) name (map f xs) is)
        ∙ behind (place_by Kept (map f xs) name) ∙ rest

pub any_by : {A : Type 0} (f : A → List ℕ) (name : List ℕ) (xs : List A) → is_some (place_by Kept (map f xs) name)
    ≡ list_any (λ x. bytes_eq (f x) name) xs
any_by f name [] = ap is_some (place_none Kept name)
any_by f name (x ∷ xs) = by_test (any_by f name xs) (bytes_eq (f x) name) refl
  where
    behind : (place : Option ℕ) → is_some (option_map (λ k. suc k) place) ≡ is_some place
    behind None = refl
    behind (Some k) = refl

    by_test : is_some (place_by Kept (map f xs) name) ≡ list_any (λ y. bytes_eq (f y) name) xs → (test : Bool)
        → bytes_eq (f x) name ≡ test
        → is_some (place_by Kept (f x ∷ map f xs) name) ≡ test || list_any (λ y. bytes_eq (f y) name) xs
    by_test rest true is = ap is_some (place_here Kept (f x) name (map f xs) is)
    by_test rest false is = ap is_some (place_behind Kept (f x) name (map f xs) is)
        ∙ behind (place_by Kept (map f xs) name) ∙ rest
