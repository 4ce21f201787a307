-- What was read so far, and one more.
use Rattle.std.proofs.Common.{◌≡◌, ◌∙◌, ◌↔◌, inl, inr, ℕ, zero, suc, ◌+◌, ◌-◌, ◌^◌, ◌<◌, Bool, true, false, List, []}
use Rattle.std.proofs.Common.{◌∷◌, ◌++◌, map, length, Option, Some, None, Ok, nat_le, refl, sym, ap, subst}
use Rattle.std.proofs.Common.{append_assoc, arith}
use Rattle.std.specs.Prelude.{IfSome, IsTrue, MatchOption, slice_get}
use Rattle.std.specs.List.{AllByRecursion}
use Rattle.std.proofs.lemmas.Bool.{and_parts, leb-true, cases_order, false≢true}
use Rattle.std.proofs.lemmas.List.{map-append}
use Rattle.std.proofs.lemmas.Option.{same_Some}
use Rattle.ad_dir_model.specs.Object.{Stored, Held, Object}
use Rattle.ad_dir_model.specs.Objects.{RiseAbove, Rise}
use Rattle.ad_dir_model.specs.Soundness.{AttrsRiseFrom, IsStored, IsHeld, IsContent}
use Rattle.ad_dir_model.proofs.Finding.{of_number}
use Rattle.ad_dn.specs.Value.{IsValue}
use Rattle.ad_sd.specs.declared.parts.Sd.{Sd}
use Rattle.ad_schema.specs.declared.line.SchemaRecord.{SchemaRecord}
use Rattle.ad_schema.specs.Attributes.{attrs_of}
use Rattle.ad_schema.specs.Classes.{classes_of}
use Rattle.ad_dir_objects.specs.declared.object.Object.{Object as ObjectIn}
use Rattle.ad_dir_objects.specs.Seen.{object_seen, objects_of}
use Rattle.ad_rows_sound.specs.Least.{IsLeastObject}
use Rattle.ad_rows_sound.specs.Objects.{AreObjects, HasSmallNumber}
use Rattle.ad_rows_sound.proofs.Finds.{place_of}
use Rattle.ad_rows_sound.proofs.Growing.{all_push, map_push}
use Rattle.ad_rows_sound.proofs.Leasts.{every, found_at, rise_places}
use Rattle.ad_bytes.specs.Reading.{Reading, many_at}
use Rattle.ad_bytes.proofs.Many.{with_front, goes_on}
use Rattle.ad_rows.specs.Parsing.{attrs_rise}
use Rattle.ad_rows.specs.Reading.{RiseUpTo, AreTaken, IsFirstBad, first_bad}

all_back : {A : Type 0} (P : A → Type 0) (xs : List A) (x : A) → AllByRecursion P (xs ++ x ∷ []) → AllByRecursion P xs
    × P x
all_back P [] x all = (tt, all.0)
all_back P (first ∷ xs) x all = let rest = all_back P xs x all.1 in ((all.0, rest.0), rest.1)

-- a flag that tells of all so far, and of one more
iff_push : {A B : Type 0} (P : B → Type 0) (f : A → B) (old new : List A) (x : A) (before one after : Bool)
    → (IsTrue after ↔ (IsTrue before × IsTrue one)) → (IsTrue before ↔ AllByRecursion P (map f old))
    → (IsTrue one ↔ P (f x)) → new ≡ old ++ x ∷ []
    → IsTrue after ↔ AllByRecursion P (map f new)
iff_push P f old new x before one after both so_far this put =
    subst (λ (l : List _). IsTrue after ↔ AllByRecursion P (map f l)) (sym put) (
      λ t. let two = both.0 t in map_push P f old x (so_far.0 two.0) (this.0 two.1),
      λ all. let parts = all_back P (map f old) (f x) (subst (AllByRecursion P) (map-append f old (x ∷ [])) all)
          in both.1 (so_far.1 parts.0, this.1 parts.1),
    )

pub rises : (least : ℕ) (values : List Held) → attrs_rise least values ≡ true → AttrsRiseFrom least values
unfolding attrs_rise
rises least [] rise = tt
rises least (held ∷ values) rise = let two = and_parts (nat_le least held.attr) (attrs_rise (suc held.attr) values)
    rise in (leb-true least held.attr two.0, rises (suc held.attr) values two.1)

pub up_push : (above last : ℕ) (objects : List Object) (o : Object) → RiseUpTo above last objects → last < o.number
    → RiseUpTo above o.number (objects ++ o ∷ [])
up_push above last [] o rise more = (omega (arith, rise, more), omega arith)
up_push above last (first ∷ objects) o rise more = (rise.0, up_push first.number last objects o rise.1 more)

pub rises_up : (above last : ℕ) (objects : List Object) → RiseUpTo above last objects → RiseAbove above objects
rises_up above last [] rise = tt
rises_up above last (o ∷ objects) rise = (rise.0, rises_up o.number last objects rise.1)

-- ---- what was read of the schema

-- one value more was read, and is seen
pub seen_more : {A B E : Type 0} (read : List ℕ → Reading B E) (f : A → B) (old new : List A) (x : A) (count i : ℕ)
    (bytes after : List ℕ) (total : Reading (List B) E) → i < count → read bytes ≡ Ok (f x, after)
    → with_front (map f old) (many_at read (count - i) bytes) ≡ total → new ≡ old ++ x ∷ []
    → with_front (map f new) (many_at read (count - (i + 1)) after) ≡ total
seen_more read f old new x count i bytes after total less is so_far put =
    subst (λ (l : List _). with_front l (many_at read (count - (i + 1)) after) ≡ total)
    (sym (ap (map f) put ∙ map-append f old (x ∷ [])))
    (goes_on read (map f old) count i bytes (f x) after total less is so_far)

pub values_more : {A : Type 0} (schema : Option (List SchemaRecord)) (attr : ℕ) (f : A → Stored) (old new : List A)
    (x : A) (before one after : Bool) → (IsTrue after ↔ (IsTrue before × IsTrue one))
    → IfSome schema (λ s. attr < length (attrs_of s) → IsTrue before ↔ AllByRecursion (IsStored s attr) (map f old))
    → IfSome schema (λ s. attr < length (attrs_of s) → IsTrue one ↔ IsStored s attr (f x)) → new ≡ old ++ x ∷ []
    → IfSome schema (λ s. attr < length (attrs_of s) → IsTrue after ↔ AllByRecursion (IsStored s attr) (map f new))
values_more None attr f old new x before one after both so_far this put = tt
values_more (Some s) attr f old new x before one after both so_far this put = λ within. iff_push (IsStored s attr) f
    old new x before one after both (so_far within) (this within) put

pub held_more : {A : Type 0} (schema : Option (List SchemaRecord)) (f : A → Held) (old new : List A) (x : A)
    (before one after : Bool) → (IsTrue after ↔ (IsTrue before × IsTrue one))
    → IfSome schema (λ s. IsTrue before ↔ AllByRecursion (IsHeld s) (map f old))
    → IfSome schema (λ s. IsTrue one ↔ IsHeld s (f x)) → new ≡ old ++ x ∷ []
    → IfSome schema (λ s. IsTrue after ↔ AllByRecursion (IsHeld s) (map f new))
held_more None f old new x before one after both so_far this put = tt
held_more (Some s) f old new x before one after both so_far this put = iff_push (IsHeld s) f old new x before one
    after both so_far this put

pub some_values : (count : ℕ) (values : List Stored) → (count ≡ 0 → ⊥) → length values ≡ count → 0 < length values
some_values count [] more long = absurd (more (sym long))
some_values count (value ∷ values) more long = omega arith

pub held_if : (schema : Option (List SchemaRecord)) (attr : ℕ) (values : List Stored) (good is fits : Bool) → 0
    < length values → (IsTrue fits ↔ (IsTrue good × IsTrue is))
    → IfSome schema (λ s. IsTrue is ↔ (attr < length (attrs_of s)))
    → IfSome schema (λ s. attr < length (attrs_of s) → IsTrue good ↔ AllByRecursion (IsStored s attr) values)
    → IfSome schema (λ s. IsTrue fits ↔ IsHeld s (record { attr = attr; values = values }))
held_if None attr values good is fits some both within each = tt
held_if (Some s) attr values good is fits some both within each = (
  λ t. let two = both.0 t in let inside = within.0 two.1
      in record { of_schema = inside; some = some; each = (each inside).0 two.0 },
  λ held. both.1 ((each held.of_schema).1 held.each, within.1 held.of_schema),
)

pub content_if : (schema : Option (List SchemaRecord)) (o : Object) (good named value class whole : Bool)
    → (IsTrue whole ↔ (IsTrue good × IsTrue named)) → (IsTrue named ↔ (IsTrue value × IsTrue class))
    → (IsTrue value ↔ IsValue o.name)
    → IfSome schema (λ s. IsTrue class ↔ (o.class < length (classes_of s))) → attrs_rise 0 o.values ≡ true
    → IfSome schema (λ s. IsTrue good ↔ AllByRecursion (IsHeld s) o.values)
    → IfSome schema (λ s. IsTrue whole ↔ IsContent s o)
content_if None o good named value class whole both parts is_value is_class rise each = tt
content_if (Some s) o good named value class whole both parts is_value is_class rise each = (
  λ all.
      let two = both.0 all in
      let names = parts.0 two.1 in
      record {
        class_of_schema = is_class.0 names.1;
        name = is_value.0 names.0;
        attrs_rise
            = rises 0 o.values rise;
        each = each.0 two.0;
      },
  λ content. both.1 (each.1 content.each, parts.1 (is_value.1 content.name, is_class.1 content.class_of_schema)),
)

-- ---- the first that isn't of the schema

abbrev AreGood : List SchemaRecord → Option ℕ → List Object → Type 0
AreGood schema bad objects = MatchOption bad (AllByRecursion (IsContent schema) objects) (IsFirstBad schema objects)

good_push : (schema : List SchemaRecord) (bad : Option ℕ) (good : Bool) (objects : List Object) (o : Object)
    → (IsTrue good ↔ IsContent schema o) → AreGood schema bad objects → AreGood schema (first_bad bad good o.number)
    (objects ++ o ∷ [])
good_push schema (Some first) good objects o is so_far = record {
  before = so_far.before;
  object = so_far.object;
  behind = so_far.behind ++ o ∷ [];
  parts = ap (λ (l : List Object). l ++ o ∷ []) so_far.parts ∙ append_assoc so_far.before
      (so_far.object ∷ so_far.behind) (o ∷ []);
  is = so_far.is;
  fails = so_far.fails;
  good = so_far.good;
}
good_push schema None true objects o is so_far = all_push (IsContent schema) objects o so_far (is.0 refl)
good_push schema None false objects o is so_far
    = record {
      before = objects;
      object = o;
      behind = [];
      parts = refl;
      is = refl;
      fails = λ content.
          false≢true (is.1 content);
      good = so_far;
    }

sooner : (os : List Object) → Rise os → (i j : ℕ) (a b : Object) → slice_get os i ≡ Some a → slice_get os j ≡ Some b
    → b.number < a.number → j < i
sooner os rise i j a b at_i at_j less = elim (cases_order i j) [
  | inl same ↦ (let one : a ≡ b = same_Some a b (sym at_i ∙ ap (slice_get os) same ∙ at_j) in let number
      = ap (λ (o : Object). o.number) one in absurd (omega (arith, number, less)))
  | inr apart ↦ elim apart [
    | inl before ↦ (let more = rise_places 0 os rise i j a b before at_i at_j in absurd (omega (arith, more, less)))
    | inr after ↦ after
  ]
]

there : (before : List Object) (o : Object) (behind : List Object) → slice_get (before ++ o ∷ behind) (length before)
    ≡ Some o
there [] o behind = refl
there (x ∷ before) o behind = there before o behind

in_front : (P : Object → Type 0) (before rest : List Object) (j : ℕ) (o : Object) → AllByRecursion P before → j
    < length before → slice_get (before ++ rest) j ≡ Some o → P o
in_front P [] rest j o all less at = absurd (omega (arith, less))
in_front P (x ∷ before) rest zero o all less at = subst P (same_Some x o at) all.0
in_front P (x ∷ before) rest (suc j) o all less at = in_front P before rest j o all.1 (omega (arith, less)) at

least_split : (P : Object → Type 0) (before : List Object) (x : Object) (behind : List Object)
    → Rise (before ++ x ∷ behind) → (P x → ⊥) → AllByRecursion P before → IsLeastObject P (before ++ x ∷ behind)
    (Some x.number)
least_split P before x behind rise fails all =
    let os = before ++ x ∷ behind in (
      λ holds. fails (holds x (found_at 0 os rise (length before) x (there before x behind))),
      λ n below o found.
          let j = place_of os n o found in
          let number = of_number os n o found in
          in_front P before (x ∷ behind) j.0 o all
          (sooner os rise (length before) j.0 x o (there before x behind) j.1 (omega (arith, number, below))) j.1,
    )

pub least_bad : (schema : List SchemaRecord) (bad : Option ℕ) (objects : List Object) → Rise objects
    → AreGood schema bad objects → IsLeastObject (IsContent schema) objects bad
least_bad schema None objects rise all = every (IsContent schema) objects all
least_bad schema (Some n) objects rise first =
    subst (λ (l : List Object). IsLeastObject (IsContent schema) l (Some n)) (sym first.parts)
    (subst (λ (m : ℕ). IsLeastObject (IsContent schema) (first.before ++ first.object ∷ first.behind) (Some m)) first.is
    (least_split (IsContent schema) first.before first.object first.behind (subst Rise first.parts rise) first.fails
    first.good))

pub objects_taken : (schema : Option (List SchemaRecord)) (bad after : Option ℕ) (last number : ℕ)
    (old new : List (ObjectIn × Sd)) (x : ObjectIn × Sd) (good : Bool) → after ≡ first_bad bad good number → last
    < number → number < 2 ^ 32 - 1 → x.0.number ≡ number
    → IfSome schema (λ s. IsTrue good ↔ IsContent s (object_seen x.0 x.1)) → new ≡ old ++ x ∷ []
    → IfSome schema (λ s. AreTaken s bad last (objects_of old) → AreTaken s after number (objects_of new))
objects_taken None bad after last number old new x good next above below is content put = tt
objects_taken (Some s) bad after last number old new x good next above below is content put = λ are.
    let one : ObjectIn × Sd → Object = λ e. object_seen e.0 e.1 in
    let o = object_seen x.0 x.1 in
    let longer : objects_of new ≡ objects_of old ++ o ∷ [] = ap (map one) put ∙ map-append one old (x ∷ []) in
    subst (AreTaken s after number) (sym longer) (record {
      rise = subst (λ (n : ℕ). RiseUpTo 0 n (objects_of old ++ o ∷ [])) is
          (up_push 0 last (objects_of old) o are.rise (subst (λ (n : ℕ). last < n) (sym is) above));
      small = all_push HasSmallNumber (objects_of old) o are.small (subst (λ (n : ℕ). n < 2 ^ 32 - 1) (sym is) below);
      content = subst (λ (first : Option ℕ). AreGood s first (objects_of old ++ o ∷ []))
          (ap (first_bad bad good) is ∙ sym next) (good_push s bad good (objects_of old) o content are.content);
    })

all_good : (schema : List SchemaRecord) (bad : Option ℕ) (objects : List Object) → AreGood schema bad objects → bad
    ≡ None → AllByRecursion (IsContent schema) objects
all_good schema bad objects are none = subst (λ (first : Option ℕ). AreGood schema first objects) none are

-- what was taken in is what is judged
pub are_objects : (schema : List SchemaRecord) (bad : Option ℕ) (last : ℕ) (objects : List Object)
    → AreTaken schema bad last objects → AreObjects schema bad objects
are_objects schema bad last objects are = record {
  rise = rises_up 0 last objects are.rise;
  small = are.small;
  content
      = all_good schema bad objects are.content;
}

pub taken_rise : (schema : List SchemaRecord) (bad : Option ℕ) (last : ℕ) (objects : List Object)
    → AreTaken schema bad last objects → Rise objects
taken_rise schema bad last objects are = rises_up 0 last objects are.rise

pub bad_is_least : (schema : List SchemaRecord) (bad : Option ℕ) (last : ℕ) (objects : List Object)
    → AreTaken schema bad last objects → IsLeastObject (IsContent schema) objects bad
bad_is_least schema bad last objects are = least_bad schema bad objects (rises_up 0 last objects are.rise) are.content
