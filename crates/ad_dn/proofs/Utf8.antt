-- A list of bytes is UTF-8 exactly where each byte may follow within its character, and nothing is due at the end.
use Rattle.std.proofs.Common.{Bool, nat_le, nat_lt, eqb, ◌≡◌, ◌⊎◌, inl, inr, ℕ, zero, suc, ◌+◌, ◌-◌, ◌*◌, ◌/◌, ◌<◌}
use Rattle.std.proofs.Common.{◌≤◌, true, false, if◌then◌else◌, Option, Some, None, List, [], ◌∷◌, ◌++◌, length, refl}
use Rattle.std.proofs.Common.{sym, ap, subst, ◌∙◌, arith, lt-ltb, le-ltb, le-leb, eq-eqb, ne_eqb}
use Rattle.std.specs.Prelude.{◌&&◌}
use Rattle.std.specs.Str.{IsUtf8}
use Rattle.std.proofs.lemmas.Bool.{cases_lt, cases_eq, and_parts}
use Rattle.std.proofs.lemmas.Bool.Decides.{nat_tests}
use Rattle.std.proofs.lemmas.Str.{encode_ascii, IsUtf8-nil}
use lib.Utf8.{scalar, scalars, encode, encodes, next, low_scalar, scalar_cases}
use Rattle.ad_dn.specs.declared.utf8_state.Utf8State.{Utf8State}
use Rattle.ad_dn.specs.Utf8State.{due, size, least_after, most_after, begun, continued, due_after}

-- the bytes may follow one after the other, and end a character
abbrev pub Fills : Option Utf8State → List ℕ → Type 0
Fills None bytes = ⊥
Fills (Some d) [] = d.more ≡ 0
Fills (Some d) (b ∷ bytes) = Fills (due_after 0 d b) bytes

-- ---- sizes

pub size_1 : (b : ℕ) → b < 128 → size b ≡ 1
size_1 b h = rw (lt-ltb b 128 h) refl

pub size_2 : (b : ℕ) → 194 ≤ b → b < 224 → size b ≡ 2
size_2 b l h = rw (le-ltb b 128 (omega arith), le-ltb b 194 l, lt-ltb b 224 h) refl

pub size_3 : (b : ℕ) → 224 ≤ b → b < 240 → size b ≡ 3
size_3 b l h = rw (le-ltb b 128 (omega arith), le-ltb b 194 (omega arith), le-ltb b 224 l, lt-ltb b 240 h) refl

pub size_4 : (b : ℕ) → 240 ≤ b → b < 245 → size b ≡ 4
size_4 b l h = rw (
  le-ltb b 128 (omega arith),
  le-ltb b 194 (omega arith),
  le-ltb b 224 (omega arith),
  le-ltb b 240 l,
  lt-ltb b 245 h,
) refl

size_none : (b : ℕ) → 128 ≤ b → b < 194 → size b ≡ 0
size_none b l h = rw (le-ltb b 128 l, lt-ltb b 194 h) refl

pub size_over : (b : ℕ) → 245 ≤ b → size b ≡ 0
size_over b l = rw (
  le-ltb b 128 (omega arith),
  le-ltb b 194 (omega arith),
  le-ltb b 224 (omega arith),
  le-ltb b 240
      (omega arith),
  le-ltb b 245 l,
) refl

-- a byte by the size of the character that it begins
pub data Lead (b : ℕ) : Type 0 where
  one : b < 128 → size b ≡ 1 → Lead b
  two : (194 ≤ b) × (b < 224) → size b ≡ 2 → Lead b
  three : (224 ≤ b) × (b < 240) → size b ≡ 3 → Lead b
  four : (240 ≤ b) × (b < 245) → size b ≡ 4 → Lead b
  no_lead : size b ≡ 0 → Lead b

pub lead : (b : ℕ) → Lead b
lead b = elim (cases_lt b 128) [
  | inl h ↦ one h (size_1 b h)
  | inr l ↦ elim (cases_lt b 194) [
    | inl h ↦ no_lead (size_none b l h)
    | inr l2 ↦ elim (cases_lt b 224) [
      | inl h ↦ two (l2, h) (size_2 b l2 h)
      | inr l3 ↦ elim (cases_lt b 240) [
        | inl h ↦ three (l3, h) (size_3 b l3 h)
        | inr l4 ↦ elim (cases_lt b 245) [ inl h ↦ four (l4, h) (size_4 b l4 h) | inr l5 ↦ no_lead (size_over b l5) ]
      ]
    ]
  ]
]

-- the two bounds as numbers, by the first byte
pub least_is : (b : ℕ) → ((b ≡ 224) × (least_after b ≡ 160))
    ⊎ (((b ≡ 240) × (least_after b ≡ 144)) ⊎ ((b ≡ 224 → ⊥) × (b ≡ 240 → ⊥) × (least_after b ≡ 128)))
least_is b =
    elim (cases_eq b 224) [
      | inl e ↦ inl (e, rw (eq-eqb b 224 e) refl)
      | inr n ↦ elim (cases_eq b 240) [
        | inl e ↦ inr (inl (e, rw (ne_eqb b 224 n, eq-eqb b 240 e) refl))
        | inr m
            ↦ inr (inr (n, m, rw (ne_eqb b 224 n, ne_eqb b 240 m) refl))
      ]
    ]

pub most_is : (b : ℕ) → ((b ≡ 237) × (most_after b ≡ 159))
    ⊎ (((b ≡ 244) × (most_after b ≡ 143)) ⊎ ((b ≡ 237 → ⊥) × (b ≡ 244 → ⊥) × (most_after b ≡ 191)))
most_is b =
    elim (cases_eq b 237) [
      | inl e ↦ inl (e, rw (eq-eqb b 237 e) refl)
      | inr n ↦ elim (cases_eq b 244) [
        | inl e ↦ inr (inl (e, rw (ne_eqb b 237 n, eq-eqb b 244 e) refl))
        | inr m
            ↦ inr (inr (n, m, rw (ne_eqb b 237 n, ne_eqb b 244 m) refl))
      ]
    ]

-- ---- one byte

-- a first byte, where it has room
pub begun_is : (used b k : ℕ) → size b ≡ suc k → used + suc k ≤ 1024 → begun used b
    ≡ Some (due k (least_after b) (most_after b))
begun_is used b k e room =
    let some : nat_lt 1024 (used + suc k) ≡ false = grind (arith, nat_tests) in
    let not_0 : eqb (suc k) 0 ≡ false = grind (arith, nat_tests) in
    let less : suc k - 1 ≡ k = omega arith in
    rw (e, not_0, some, less) refl

pub begun_not : (used b : ℕ) → size b ≡ 0 → begun used b ≡ None
begun_not used b e = rw e refl

pub at_first : (used b : ℕ) (d : Utf8State) → d.more ≡ 0 → due_after used d b ≡ begun used b
at_first used b d e = rw e refl

pub at_later : (used b : ℕ) (d : Utf8State) → 0 < d.more → due_after used d b ≡ continued d b
at_later used b d some =
    let test : eqb d.more 0 ≡ false = grind (arith, nat_tests) in
    rw test refl

pub continued_is : (d : Utf8State) (b : ℕ) → d.low ≤ b → b ≤ d.high → continued d b ≡ Some (due (d.more - 1) 128 191)
continued_is d b l h = rw (le-leb d.low b l, le-leb b d.high h) refl

-- what a later byte tells
pub go_on : (d : Utf8State) (b : ℕ) (bytes : List ℕ) → Fills (continued d b) bytes → (d.low ≤ b) × (b ≤ d.high)
    × Fills (Some (due (d.more - 1) 128 191)) bytes
go_on d b bytes f = by (nat_le d.low b && nat_le b d.high) refl f
  where
    by : (t : Bool) → (nat_le d.low b && nat_le b d.high) ≡ t
        → Fills (if t then Some (due (d.more - 1) 128 191) else None) bytes → (d.low ≤ b) × (b ≤ d.high)
        × Fills (Some (due (d.more - 1) 128 191)) bytes
    by true e f = (grind (arith, nat_tests), grind (arith, nat_tests), f)
    by false e f = absurd f

pub later_on : (k low high b : ℕ) (bytes : List ℕ) → Fills (Some (due (suc k) low high)) (b ∷ bytes) → (low ≤ b)
    × (b ≤ high) × Fills (Some (due k 128 191)) bytes
later_on k low high b bytes f =
    let g = go_on (due (suc k) low high) b bytes
    (subst (λ (o : Option Utf8State). Fills o bytes) (at_later 0 b (due (suc k) low high) (omega arith)) f) in
    let less : suc k - 1 ≡ k = omega arith in
    (g.0, g.1, subst (λ (m : ℕ). Fills (Some (due m 128 191)) bytes) less g.2)

-- what is due at a character's end doesn't matter
pub same_start : (d e : Utf8State) (bytes : List ℕ) → d.more ≡ 0 → e.more ≡ 0 → Fills (Some d) bytes
    → Fills (Some e) bytes
same_start d e [] p q f = q
same_start d e (b ∷ bytes) p q f = subst (λ (o : Option Utf8State). Fills o bytes)
    (at_first 0 b d p ∙ sym (at_first 0 b e q)) f

-- ---- from bytes to characters

two_bytes : (c : ℕ) → 128 ≤ c → c < 2048 → encode c ≡ (192 + c / 64) ∷ next c ∷ []
unfolding encode
two_bytes c l h = rw (le-ltb c 128 l, lt-ltb c 2048 h)

three_bytes : (c : ℕ) → 2048 ≤ c → c < 65536 → encode c ≡ (224 + c / 4096) ∷ next (c / 64) ∷ next c ∷ []
unfolding encode
three_bytes c l h = rw (le-ltb c 128 (omega arith), le-ltb c 2048 l, lt-ltb c 65536 h)

four_bytes : (c : ℕ) → 65536 ≤ c → encode c ≡ (240 + c / 262144) ∷ next (c / 4096) ∷ next (c / 64) ∷ next c ∷ []
unfolding encode
four_bytes c l = rw (le-ltb c 128 (omega arith), le-ltb c 2048 (omega arith), le-ltb c 65536 l)

high_scalar : (c : ℕ) → 57344 ≤ c → c < 1114112 → scalar c ≡ true
high_scalar c l h = rw (le-ltb c 55296 (omega arith), le-leb 57344 c l, lt-ltb c 1114112 h)

cons : (c : ℕ) (prefix bs : List ℕ) → scalar c ≡ true → encode c ≡ prefix → IsUtf8 bs → IsUtf8 (prefix ++ bs)
cons c prefix bs ok e u = (c ∷ u.0, (rw ok u.1.0, λ i. e i ++ u.1.1 i))

abbrev IsLater : ℕ → Type 0
IsLater b = (128 ≤ b) × (b ≤ 191)

cons_two : (x y : ℕ) (bs : List ℕ) → (194 ≤ x) × (x < 224) → IsLater y → IsUtf8 bs → IsUtf8 (x ∷ y ∷ bs)
cons_two x y bs h f =
    let c = (x - 192) * 64 + (y - 128) in
    let p : 192 + c / 64 ≡ x = omega arith in
    let q : next c ≡ y = omega arith in
    cons c (x ∷ y ∷ []) bs (low_scalar c (omega arith))
    (two_bytes c (omega arith) (omega arith) ∙ (λ k. p k ∷ q k ∷ []))

second_later : (x y : ℕ) → (least_after x ≤ y) × (y ≤ most_after x) → IsLater y
second_later x y f = omega (arith, least_is x, most_is x)

of_three : (x y z : ℕ) → 224 ≤ x → IsLater y → IsLater z
    → let c = (x - 224) * 4096 + (y - 128) * 64 + (z - 128) in (224 + c / 4096 ≡ x) × (next (c / 64) ≡ y) × (next c ≡ z)
of_three x y z h f g = (omega arith, omega arith, omega arith)

of_four : (x y z w : ℕ) → 240 ≤ x → IsLater y → IsLater z → IsLater w
    → let c = (x - 240) * 262144 + (y - 128) * 4096 + (z - 128) * 64 + (w - 128) in (240 + c / 262144 ≡ x)
    × (next (c / 4096) ≡ y) × (next (c / 64) ≡ z) × (next c ≡ w)
of_four x y z w h f g j =
    let e : ((x - 240) * 262144 + (y - 128) * 4096 + (z - 128) * 64 + (w - 128)) / 64 ≡ (x - 240) * 4096
    + (y - 128) * 64 + (z - 128) = omega arith in
    (omega arith, omega arith, rw e (omega arith), omega arith)

cons_three : (x y z : ℕ) (bs : List ℕ) → (224 ≤ x) × (x < 240) → (least_after x ≤ y) × (y ≤ most_after x) → IsLater z
    → IsUtf8 bs → IsUtf8 (x ∷ y ∷ z ∷ bs)
cons_three x y z bs h f g =
    let c = (x - 224) * 4096 + (y - 128) * 64 + (z - 128) in
    let bytes = of_three x y z h.0 (second_later x y f) g in
    let p = bytes.0 in
    let q = bytes.1 in
    let r = bytes.2 in
    let l = least_is x in
    let m = most_is x in
    let ok : scalar c ≡ true = elim (cases_lt c 55296)
    [ inl a ↦ low_scalar c a | inr a ↦ high_scalar c (omega arith) (omega arith) ] in
    cons c (x ∷ y ∷ z ∷ []) bs ok (three_bytes c (omega arith) (omega arith) ∙ (λ k. p k ∷ q k ∷ r k ∷ []))

cons_four : (x y z w : ℕ) (bs : List ℕ) → (240 ≤ x) × (x < 245) → (least_after x ≤ y) × (y ≤ most_after x) → IsLater z
    → IsLater w → IsUtf8 bs → IsUtf8 (x ∷ y ∷ z ∷ w ∷ bs)
cons_four x y z w bs h f g j =
    let c = (x - 240) * 262144 + (y - 128) * 4096 + (z - 128) * 64 + (w - 128) in
    let bytes = of_four x y z w h.0 (second_later x y f) g j in
    let p = bytes.0 in
    let q = bytes.1 in
    let r = bytes.2 in
    let t = bytes.3 in
    let l = least_is x in
    let m = most_is x in
    cons c (x ∷ y ∷ z ∷ w ∷ []) bs (high_scalar c (omega arith) (omega arith))
    (four_bytes c (omega arith) ∙ (λ k. p k ∷ q k ∷ r k ∷ t k ∷ []))

module _ (n : ℕ) (rest : (d : Utf8State) (bs : List ℕ) → length bs ≤ n → d.more ≡ 0 → Fills (Some d) bs → IsUtf8 bs)
  where
    fourth : (a b c : ℕ) (bs : List ℕ) → length bs ≤ n → (240 ≤ a) × (a < 245) → (least_after a ≤ b)
        × (b ≤ most_after a) → IsLater c → Fills (Some (due 1 128 191)) bs → IsUtf8 (a ∷ b ∷ c ∷ bs)
    fourth a b c [] l h f g v = absurd (omega arith)
    fourth a b c (d ∷ ds) l h f g v =
        let k = later_on 0 128 191 d ds v in
        cons_four a b c d ds h f g (k.0, k.1) (rest (due 0 128 191) ds (omega arith) refl k.2)

    third : (a b more : ℕ) (bs : List ℕ) → length bs ≤ n → ((224 ≤ a) × (a < 240) × (more ≡ 0))
        ⊎ ((240 ≤ a) × (a < 245) × (more ≡ 1)) → (least_after a ≤ b) × (b ≤ most_after a)
        → Fills (Some (due (suc more) 128 191)) bs → IsUtf8 (a ∷ b ∷ bs)
    third a b more [] l h f v = absurd (omega arith)
    third a b more (c ∷ cs) l h f v =
        let k = later_on more 128 191 c cs v in
        let so : Fills (Some (due more 128 191)) cs = k.2 in
        elim h [
          | inl s ↦ cons_three a b c cs (s.0, s.1) f (k.0, k.1) (rest (due more 128 191) cs (omega arith) s.2 so)
          | inr s ↦ fourth a b c cs (omega arith) (s.0, s.1) f (k.0, k.1)
              (subst (λ (m : ℕ). Fills (Some (due m 128 191)) cs) s.2 so)
        ]

    second : (a more : ℕ) (bs : List ℕ) → length bs ≤ n
        → ((194 ≤ a) × (a < 224) × (more ≡ 0))
        ⊎ (((224 ≤ a) × (a < 240) × (more ≡ 1)) ⊎ ((240 ≤ a) × (a < 245) × (more ≡ 2)))
        → Fills (Some (due (suc more) (least_after a) (most_after a))) bs → IsUtf8 (a ∷ bs)
    second a more [] l h v = absurd (omega arith)
    second a more (b ∷ bs) l h v =
        let k = later_on more (least_after a) (most_after a) b bs v in
        let so : Fills (Some (due more 128 191)) bs = k.2 in
        elim h [
          | inl s ↦ cons_two a b bs (s.0, s.1) (second_later a b (k.0, k.1))
              (rest (due more 128 191) bs (omega arith) s.2 so)
          | inr s ↦ elim s [
            | inl t ↦ third a b 0 bs (omega arith) (inl (t.0, t.1, refl)) (k.0, k.1)
                (subst (λ (m : ℕ). Fills (Some (due m 128 191)) bs) t.2 so)
            | inr t ↦ third a b 1 bs (omega arith) (inr (t.0, t.1, refl)) (k.0, k.1)
                (subst (λ (m : ℕ). Fills (Some (due m 128 191)) bs) t.2 so)
          ]
        ]

    begins : (d : Utf8State) (a : ℕ) (bs : List ℕ) → length bs ≤ n → d.more ≡ 0 → Lead a → Fills (due_after 0 d a) bs
        → IsUtf8 (a ∷ bs)
    begins d a bs l e (one h is) f =
        let so : Fills (Some (due 0 (least_after a) (most_after a))) bs = subst (λ (o : Option Utf8State). Fills o bs)
        (at_first 0 a d e ∙ begun_is 0 a 0 is (omega arith)) f in
        cons a (a ∷ []) bs (low_scalar a (omega arith)) (encode_ascii a h)
        (rest (due 0 (least_after a) (most_after a)) bs l refl so)
    begins d a bs l e (two h is) f = second a 0 bs l (inl (h.0, h.1, refl))
        (subst (λ (o : Option Utf8State). Fills o bs) (at_first 0 a d e ∙ begun_is 0 a 1 is (omega arith)) f)
    begins d a bs l e (three h is) f = second a 1 bs l (inr (inl (h.0, h.1, refl)))
        (subst (λ (o : Option Utf8State). Fills o bs) (at_first 0 a d e ∙ begun_is 0 a 2 is (omega arith)) f)
    begins d a bs l e (four h is) f = second a 2 bs l (inr (inr (h.0, h.1, refl)))
        (subst (λ (o : Option Utf8State). Fills o bs) (at_first 0 a d e ∙ begun_is 0 a 3 is (omega arith)) f)
    begins d a bs l e (no_lead is) f = let never : ⊥ = subst (λ (o : Option Utf8State). Fills o bs)
        (at_first 0 a d e ∙ begun_not 0 a is) f in absurd never

to_chars : (n : ℕ) (d : Utf8State) (bs : List ℕ) → length bs ≤ n → d.more ≡ 0 → Fills (Some d) bs → IsUtf8 bs
to_chars zero d [] l e f = IsUtf8-nil
to_chars zero d (b ∷ bs) l e f = absurd (omega arith)
to_chars (suc n) d [] l e f = IsUtf8-nil
to_chars (suc n) d (b ∷ bs) l e f = begins n (to_chars n) d b bs (omega arith) e (lead b) f

-- bytes that fill characters are UTF-8
pub filled_utf8 : (d : Utf8State) (bs : List ℕ) → d.more ≡ 0 → Fills (Some d) bs → IsUtf8 bs
filled_utf8 d bs = to_chars (length bs) d bs (omega arith)

-- ---- from characters to bytes

pub lead_fills : (d : Utf8State) (b k : ℕ) (bs : List ℕ) → d.more ≡ 0 → size b ≡ suc k → k ≤ 3
    → Fills (Some (due k (least_after b) (most_after b))) bs → Fills (Some d) (b ∷ bs)
lead_fills d b k bs e is few f = subst (λ (o : Option Utf8State). Fills o bs)
    (sym (at_first 0 b d e ∙ begun_is 0 b k is (omega arith))) f

later_fills : (k low high b : ℕ) (bs : List ℕ) → low ≤ b → b ≤ high → Fills (Some (due k 128 191)) bs
    → Fills (Some (due (suc k) low high)) (b ∷ bs)
later_fills k low high b bs l h f =
    let less : suc k - 1 ≡ k = omega arith in
    subst (λ (o : Option Utf8State). Fills o bs)
    (sym (at_later 0 b (due (suc k) low high) (omega arith) ∙ continued_is (due (suc k) low high) b l h
    ∙ ap (λ (m : ℕ). Some (due m 128 191)) less)) f

one_char : (c : ℕ) (d : Utf8State) (bs : List ℕ) → d.more ≡ 0 → scalar c ≡ true
    → ((e : Utf8State) → e.more ≡ 0 → Fills (Some e) bs) → Fills (Some d) (encode c ++ bs)
one_char c d bs e ok rest =
    let range = scalar_cases c ok in
    elim (cases_lt c 128) [
      | inl a ↦ rw (encode_ascii c a) (lead_fills d c 0 bs e (size_1 c a) (omega arith)
          (rest (due 0 (least_after c) (most_after c)) refl))
      | inr a ↦ elim (cases_lt c 2048) [
        | inl b ↦
            let x = 192 + c / 64 in
            let l = least_is x in
            let m = most_is x in
            rw (two_bytes c a b)
            (lead_fills d x 1 (next c ∷ bs) e (size_2 x (omega arith) (omega arith)) (omega arith)
            (later_fills 0 (least_after x) (most_after x) (next c) bs (omega arith) (omega arith)
            (rest (due 0 128 191) refl)))
        | inr b ↦ elim (cases_lt c 65536) [
          | inl h ↦
              let x = 224 + c / 4096 in
              let l = least_is x in
              let m = most_is x in
              rw (three_bytes c b h)
              (lead_fills d x 2 (next (c / 64) ∷ next c ∷ bs) e (size_3 x (omega arith) (omega arith)) (omega arith)
              (later_fills 1 (least_after x) (most_after x) (next (c / 64)) (next c ∷ bs) (omega arith) (omega arith)
              (later_fills 0 128 191 (next c) bs (omega arith) (omega arith) (rest (due 0 128 191) refl))))
          | inr h ↦
              let x = 240 + c / 262144 in
              let l = least_is x in
              let m = most_is x in
              rw (four_bytes c h)
              (lead_fills d x 3 (next (c / 4096) ∷ next (c / 64) ∷ next c ∷ bs) e
              (size_4 x (omega arith) (omega arith)) (omega arith)
              (later_fills 2 (least_after x) (most_after x) (next (c / 4096)) (next (c / 64) ∷ next c ∷ bs)
              (omega arith) (omega arith)
              (later_fills 1 128 191 (next (c / 64)) (next c ∷ bs) (omega arith) (omega arith)
              (later_fills 0 128 191 (next c) bs (omega arith) (omega arith) (rest (due 0 128 191) refl)))))
        ]
      ]
    ]

of_chars : (cs : List ℕ) → scalars cs ≡ true → (d : Utf8State) → d.more ≡ 0 → Fills (Some d) (encodes cs)
of_chars [] ok d e = e
of_chars (c ∷ cs) ok d e = let p = and_parts (scalar c) (scalars cs) ok in one_char c d (encodes cs) e p.0
    (of_chars cs p.1)

-- UTF-8 fills characters
pub utf8_fills : (d : Utf8State) (bs : List ℕ) → d.more ≡ 0 → IsUtf8 bs → Fills (Some d) bs
utf8_fills d bs e u = subst (Fills (Some d)) u.1.1 (of_chars u.0 u.1.0 d e)

-- no fewer bytes follow than are due
pub enough_follow : (d : Utf8State) (bs : List ℕ) → Fills (Some d) bs → d.more ≤ length bs
enough_follow d [] f = omega (arith, f)
enough_follow d (b ∷ bs) f = elim (cases_lt 0 d.more) [
  | inr over ↦ omega arith
  | inl some ↦
      let k = go_on d b bs (subst (λ (o : Option Utf8State). Fills o bs) (at_later 0 b d some) f) in
      let least = enough_follow (due (d.more - 1) 128 191) bs k.2 in
      omega (arith, least)
]
