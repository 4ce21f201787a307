-- What is found among objects that were read.
use Rattle.std.proofs.Common.{◌≡◌, ◌∙◌, ◌⊎◌, ℕ, zero, suc, ◌+◌, ◌<◌, ◌≤◌, Bool, true, false, ◌==◌, if◌then◌else◌}
use Rattle.std.proofs.Common.{List, [], ◌∷◌, ◌++◌, map, take, drop, length, get_or, Some, None, refl, sym, ap}
use Rattle.std.proofs.Common.{subst, arith, inl, inr}
use Rattle.std.specs.Prelude.{slice_get, nat_eq}
use Rattle.std.specs.List.{AllByRecursion}
use Rattle.std.specs.Str.{bytes_eq, IsUtf8, is_utf8}
use Rattle.std.proofs.lemmas.Str.{IsUtf8-from_is_utf8, is_utf8-from_IsUtf8}
use Rattle.std.specs.List.{position_from}
use Rattle.std.proofs.lemmas.Iterator.Adapters.{position_from-zero}
use Rattle.std.proofs.lemmas.Slice.Eq.{bytes_eq-Decides}
use Rattle.ad_schema_classes.specs.declared.names.Case.TheVariants.{Kept}
use Rattle.ad_schema_classes.specs.Hashes.{place_by}
use Rattle.std.proofs.lemmas.List.{at_drop_more, drop_all, take_more, map-append}
use Rattle.std.proofs.lemmas.Option.{none-some, same_Some}
use Rattle.std.proofs.lemmas.Bool.{cases_Bool}
use Rattle.ad_sd.specs.declared.parts.Sd.{Sd}
use Rattle.ad_dir_objects.specs.declared.object.Object.{Object as ObjectIn}
use Rattle.ad_dir_objects.specs.Seen.{object_seen, objects_of}
use Rattle.ad_dir_model.specs.Object.{Object}
use Rattle.ad_dir_model.specs.Objects.{object_of}
use Rattle.ad_dir_model.specs.Limits.{max_depth}
use Rattle.ad_dir_model.specs.Tree.{IsAtDepth, IsPlaced}
use Rattle.ad_sd.specs.Normal.{SpellsNormal, normal_bytes}

abbrev pub Entry : Type 0
Entry = ObjectIn × Sd

pub entry_from : (objects : List Entry) (i n : ℕ) (item : Entry) → i < length objects → item ≡ get_or objects i item
    → object_of (objects_of (drop i objects)) n ≡ object_of (objects_of (item ∷ drop (i + 1) objects)) n
entry_from objects i n item less is =
    at_drop_more (λ (left : List Entry). object_of (objects_of left) n) objects i item less
    ∙ ap (λ (e : Entry). object_of (objects_of (e ∷ drop (i + 1) objects)) n) (sym is)

pub entry_here : (item : Entry) (rest : List Entry) (n : ℕ) → (item.0.number == n) ≡ true
    → object_of (objects_of (item ∷ rest)) n ≡ Some (object_seen item.0 item.1)
unfolding object_of
entry_here item rest n e = ap (λ (t : Bool). if t then Some (object_seen item.0 item.1)
    else object_of (objects_of rest) n) e

pub entry_later : (item : Entry) (rest : List Entry) (n : ℕ) → (item.0.number == n) ≡ false
    → object_of (objects_of (item ∷ rest)) n ≡ object_of (objects_of rest) n
unfolding object_of
entry_later item rest n e = ap (λ (t : Bool). if t then Some (object_seen item.0 item.1)
    else object_of (objects_of rest) n) e

pub none_of : (objects : List Entry) (i n : ℕ) → length objects ≤ i → object_of (objects_of (drop i objects)) n ≡ None
unfolding object_of
none_of objects i n past = ap (λ (left : List Entry). object_of (objects_of left) n) (drop_all i objects past)

-- ---- the place of an object

pub place_of : (os : List Object) (n : ℕ) (o : Object) → object_of os n ≡ Some o → (i : ℕ) × (slice_get os i ≡ Some o)
unfolding object_of
place_of [] n o is = absurd (none-some o is)
place_of (x ∷ xs) n o is = elim (cases_Bool (nat_eq x.number n)) [
  | inl here ↦ (0, rw here at is)
  | inr other ↦ (let rest = place_of xs n o (rw other at is) in (suc rest.0, rest.1))
]

pub find_all : (P : Object → Type 0) (os : List Object) → AllByRecursion P os → (n : ℕ) (o : Object) → object_of os n
    ≡ Some o → P o
unfolding object_of
find_all P [] all n o is = absurd (none-some o is)
find_all P (x ∷ xs) all n o is = elim (cases_Bool (nat_eq x.number n)) [
  | inl here ↦ subst P (same_Some x o (rw here at is)) all.0
  | inr other ↦ find_all P xs all.1 n o (rw other at is)
]

-- ---- keys

-- a test that no element passes
pub fresh : {A : Type 0} (test : A → Bool) (k : ℕ) (xs : List A) → position_from test k xs ≡ None → (i : ℕ) (x : A)
    → slice_get xs i ≡ Some x → test x ≡ false
fresh test k [] none i x is = absurd (none-some x is)
fresh test k (y ∷ ys) none i x is = elim (cases_Bool (test y)) [
  | inl here ↦ absurd (let bad : Some k ≡ None = rw here at none in none-some k (sym bad))
  | inr other ↦ later i is other (λ j further. fresh test (k + 1) ys (rw other at none) j x further)
]
  where
    later : (i : ℕ) → slice_get (y ∷ ys) i ≡ Some x → test y ≡ false
        → ((j : ℕ) → slice_get ys j ≡ Some x → test x ≡ false) → test x ≡ false
    later zero at_once other others = subst (λ (z : _). test z ≡ false) (same_Some y x at_once) other
    later (suc j) further other others = others j further

pub none_same : (keys : List (List ℕ)) (key : List ℕ) → place_by Kept keys key ≡ None → (i : ℕ) → slice_get keys i
    ≡ Some key → ⊥
unfolding place_by
none_same keys key none i is =
    let off : bytes_eq key key ≡ false = fresh (λ (other : List ℕ). bytes_eq other key) 0 keys
    (sym (position_from-zero (λ (other : List ℕ). bytes_eq other key) keys) ∙ none) i key is in
    let on : bytes_eq key key ≡ true = (bytes_eq-Decides key key).1 refl in
    cc (off, on)

pub behind : (keys : List (List ℕ)) (key : List ℕ) (i : ℕ) (x : List ℕ) → slice_get (keys ++ key ∷ []) i ≡ Some x
    → (slice_get keys i ≡ Some x) ⊎ ((i ≡ length keys) × (x ≡ key))
behind [] key zero x is = inr (refl, sym (same_Some key x is))
behind [] key (suc i) x is = absurd (none-some x is)
behind (k ∷ keys) key zero x is = inl is
behind (k ∷ keys) key (suc i) x is = elim (behind keys key i x is) [
  | inl before ↦ inl before
  | inr last ↦ inr (ap suc last.0, last.1)
]

-- ---- the loops

pub all_at : (P : Object → Type 0) (xs : List Entry) (i : ℕ) (x : Entry) → i < length xs → x ≡ get_or xs i x
    → AllByRecursion P (objects_of xs) → P (object_seen x.0 x.1)
all_at P [] i x less is all = absurd (omega (arith, less))
all_at P (y ∷ ys) zero x less is all = subst (λ (e : Entry). P (object_seen e.0 e.1)) (sym is) all.0
all_at P (y ∷ ys) (suc i) x less is all = all_at P ys i x (omega (arith, less)) is all.1

pub keys_more : (key : Object → List ℕ) (xs : List Entry) (i : ℕ) (x : Entry) (old new : List (List ℕ)) (k : List ℕ)
    → i < length xs → x ≡ get_or xs i x → old ≡ map key (objects_of (take i xs)) → k ≡ key (object_seen x.0 x.1) → new
    ≡ old ++ k ∷ [] → new ≡ map key (objects_of (take (i + 1) xs))
keys_more key xs i x old new k less is so_far own put =
    let one : Entry → List ℕ = λ e. key (object_seen e.0 e.1) in
    let both : (l : List Entry) → map key (objects_of l) ≡ map one l = maps key in
    put ∙ (λ j. (so_far ∙ both (take i xs)) j ++ own j ∷ []) ∙ sym (map-append one (take i xs) (x ∷ []))
    ∙ ap (map one) (ap (λ (e : Entry). take i xs ++ e ∷ []) is ∙ sym (take_more xs i x less))
    ∙ sym (both (take (i + 1) xs))
  where
    maps : (key : Object → List ℕ) (l : List Entry) → map key (objects_of l)
        ≡ map (λ (e : Entry). key (object_seen e.0 e.1)) l
    maps key [] = refl
    maps key (e ∷ l) = ap (λ (r : List (List ℕ)). key (object_seen e.0 e.1) ∷ r) (maps key l)

-- up to the root
pub placed_there : (parent : ℕ → ℕ) (at counter number : ℕ)
    → ((depth : ℕ) → IsAtDepth parent depth at → IsAtDepth parent (depth + counter) number) → at ≡ 1 → counter < 65
    → IsPlaced parent number
unfolding max_depth
placed_there parent at counter number chain top few
    = record { depth = 0 + counter; within = omega (arith, few); chain = chain 0 top }

pub placed_more : (parent : ℕ → ℕ) (at next counter number : ℕ)
    → ((depth : ℕ) → IsAtDepth parent depth at → IsAtDepth parent (depth + counter) number) → (at ≡ 1 → ⊥) → next
    ≡ parent at
    → (depth : ℕ) → IsAtDepth parent depth next → IsAtDepth parent (depth + (counter + 1)) number
placed_more parent at next counter number chain below up depth there =
    let same : suc depth + counter ≡ depth + (counter + 1) = omega arith in
    subst (λ (d : ℕ). IsAtDepth parent d number) same
    (chain (suc depth) (below, subst (IsAtDepth parent depth) up there))

-- as deep as it is, it is so many parents deeper than the other
abbrev pub IsFurther : (ℕ → ℕ) → ℕ → ℕ → ℕ → Type 0
IsFurther parent at counter number = (deep : ℕ) → IsAtDepth parent deep number → (depth : ℕ)
    × (deep ≡ depth + counter) × IsAtDepth parent depth at

pub further_none : (parent : ℕ → ℕ) (number : ℕ) → IsFurther parent number 0 number
further_none parent number deep there = (deep, omega arith, there)

pub further_more : (parent : ℕ → ℕ) (at next counter number : ℕ) → IsFurther parent at counter number → (at ≡ 1 → ⊥)
    → next ≡ parent at → IsFurther parent next (counter + 1) number
further_more parent at next counter number further below up deep there = one (further deep there)
  where
    one : (depth : ℕ) × (deep ≡ depth + counter) × IsAtDepth parent depth at → (depth : ℕ)
        × (deep ≡ depth + (counter + 1)) × IsAtDepth parent depth next
    one (zero, sum, chain) = absurd (below chain)
    one (suc depth, sum, chain) = (depth, omega (arith, sum), subst (IsAtDepth parent depth) (sym up) chain.1)

pub placed_nowhere : (parent : ℕ → ℕ) (at counter number : ℕ) → IsFurther parent at counter number → 65 ≤ counter
    → IsPlaced parent number → ⊥
unfolding max_depth
placed_nowhere parent at counter number further past placed =
    let one = further placed.depth placed.chain in
    let sum = one.1 in
    let within = placed.within in
    omega (arith, sum, within, past)

-- ---- descriptors

-- a descriptor has one normal encoding
pub one_spelling : (a b : Sd) (x y : List ℕ) → SpellsNormal a x → SpellsNormal b y → a ≡ b → x ≡ y
one_spelling a b x y of_a of_b same = of_a.1 ∙ ap normal_bytes same ∙ sym of_b.1

pub one_descriptor : ((a b : Sd) (x y r s : List ℕ) → SpellsNormal a x → SpellsNormal b y → x ++ r ≡ y ++ s → (a ≡ b)
    × (x ≡ y)) → (a b : Sd) (x y : List ℕ) → SpellsNormal a x → SpellsNormal b y → x ≡ y → a ≡ b
one_descriptor law a b x y of_a of_b same = (law a b x y [] [] of_a of_b (ap (λ (l : List ℕ). l ++ []) same)).0

-- a test that says exactly whether a text is UTF-8
pub test_is : (b : Bool) (bytes : List ℕ) → (b ≡ true → IsUtf8 bytes) → (IsUtf8 bytes → b ≡ true) → b ≡ is_utf8 bytes
test_is true bytes to from = sym (is_utf8-from_IsUtf8 bytes (to refl))
test_is false bytes to from = elim (cases_Bool (is_utf8 bytes)) [
  | inl is ↦ absurd (let bad : false ≡ true = from (IsUtf8-from_is_utf8 bytes is) in cc bad)
  | inr not ↦ sym not
]
