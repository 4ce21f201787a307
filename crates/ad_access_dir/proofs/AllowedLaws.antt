-- The attributes that objects of a class may have, one after the other.
use Rattle.std.proofs.Common.{◌≡◌, ℕ, zero, suc, ◌+◌, ◌<◌, Bool, true, false, List, [], ◌∷◌, ◌++◌, Some}
use Rattle.std.proofs.Common.{length, refl, sym, ap, subst, ◌∙◌, if◌then◌else◌, arith, add-one, inl, inr}
use Rattle.std.specs.Prelude.{All, slice_get}
use Rattle.std.proofs.lemmas.List.{length-append, get_or_append_left}
use Rattle.std.proofs.Math.Seq.{get_or-append_seam}
use Rattle.std.proofs.Math.Nat.{eq-or-lt_of_le}
use Rattle.std.proofs.lemmas.Option.{slice_get_within, slice_get_read, get_or_from_slice_get}
use Rattle.std.proofs.lemmas.List.Elements.{All-append, All-weaker, All-nil, All-cons}
use Rattle.ad_schema.specs.declared.line.SchemaRecord.{SchemaRecord}
use Rattle.ad_schema.specs.declared.info.AttrId.{AttrId}
use Rattle.ad_schema.specs.Attributes.{attrs_of}
use Rattle.ad_schema.specs.Classes.{is_allowed}
use Rattle.ad_access_dir.specs.Allowed.{allowed_below, allowed_attrs}

-- ---- they are of the schema

allowed_one : (n : ℕ) (wanted : Bool) → All (λ (id : AttrId). id.0 < suc n)
    (if wanted then record { 0 = n } ∷ [] else [])
allowed_one n true = All-cons (λ (id : AttrId). id.0 < suc n) (record { 0 = n }) [] (omega arith)
    (All-nil (λ (id : AttrId). id.0 < suc n))
allowed_one n false = All-nil (λ (id : AttrId). id.0 < suc n)

below_within : (schema : List SchemaRecord) (class n : ℕ) → All (λ (id : AttrId). id.0 < n)
    (allowed_below schema class n)
unfolding allowed_below
below_within schema class zero = All-nil (λ (id : AttrId). id.0 < zero)
below_within schema class (suc n) = All-append (λ (id : AttrId). id.0 < suc n) (allowed_below schema class n)
    (if is_allowed schema class n then record { 0 = n } ∷ [] else [])
    (All-weaker (λ (id : AttrId). id.0 < n) (λ (id : AttrId). id.0 < suc n) (λ id lt. omega arith)
    (allowed_below schema class n) (below_within schema class n))
    (allowed_one n (is_allowed schema class n))

pub allowed_within : (schema : List SchemaRecord) (class : ℕ) → All (λ (id : AttrId). id.0 < length (attrs_of schema))
    (allowed_attrs schema class)
allowed_within schema class = below_within schema class (length (attrs_of schema))

pub allowed_all : (schema : List SchemaRecord) (class : ℕ) (ids : List AttrId) → ids ≡ allowed_attrs schema class
    → All (λ (id : AttrId). id.0 < length (attrs_of schema)) ids
allowed_all schema class ids is = subst (All (λ (id : AttrId). id.0 < length (attrs_of schema))) (sym is)
    (allowed_within schema class)

-- ---- one more

pub allowed_more : (schema : List SchemaRecord) (class n : ℕ) (before after : List AttrId) (wanted : Bool) → before
    ≡ allowed_below schema class n → wanted ≡ is_allowed schema class n
    → after ≡ before ++ (if wanted then record { 0 = n } ∷ [] else []) → after ≡ allowed_below schema class (n + 1)
unfolding allowed_below
allowed_more schema class n before after wanted is_before is_wanted is =
    is
    ∙ ap (λ (ids : List AttrId). ids ++ (if wanted then record { 0 = n } ∷ [] else [])) is_before
    ∙ ap (λ (w : Bool). allowed_below schema class n ++ (if w then record { 0 = n } ∷ [] else [])) is_wanted
    ∙ ap (allowed_below schema class) (sym (add-one n))

-- ---- where one stands

in_front : (xs ys : List AttrId) (i : ℕ) (x : AttrId) → slice_get xs i ≡ Some x → slice_get (xs ++ ys) i ≡ Some x
in_front xs ys i x is =
    let lt : i < length xs = slice_get_within xs i x is in
    slice_get_read (xs ++ ys) (length (xs ++ ys)) i x refl (omega (arith, lt, length-append xs ys))
    (sym (get_or_append_left xs ys x i lt ∙ get_or_from_slice_get xs i x x is))

at_the_end : (xs : List AttrId) (x : AttrId) → slice_get (xs ++ x ∷ []) (length xs) ≡ Some x
at_the_end xs x =
    slice_get_read (xs ++ x ∷ []) (length (xs ++ x ∷ [])) (length xs) x refl
    (omega (arith, length-append xs (x ∷ []))) (sym (get_or-append_seam xs x [] x))

allowed_last : (schema : List SchemaRecord) (class n : ℕ) → is_allowed schema class n ≡ true
    → slice_get (allowed_below schema class (suc n)) (length (allowed_below schema class n)) ≡ Some (record { 0 = n })
unfolding allowed_below
allowed_last schema class n is =
    ap (λ (w : Bool). slice_get (allowed_below schema class n ++ (if w then record { 0 = n } ∷ [] else []))
    (length (allowed_below schema class n))) is
    ∙ at_the_end (allowed_below schema class n) (record { 0 = n })

-- an attribute that objects may have stands after those before it
pub allowed_at : (schema : List SchemaRecord) (class n whole : ℕ) → n < whole → is_allowed schema class n ≡ true
    → slice_get (allowed_below schema class whole) (length (allowed_below schema class n)) ≡ Some (record { 0 = n })
unfolding allowed_below
allowed_at schema class n zero lt is = absurd (omega (arith, lt))
allowed_at schema class n (suc whole) lt is = elim (eq-or-lt_of_le {n = n} {m = whole} (omega (arith, lt))) [
  | inl last ↦
      subst (λ (m : ℕ). slice_get (allowed_below schema class (suc m)) (length (allowed_below schema class n))
      ≡ Some (record { 0 = n })) last (allowed_last schema class n is)
  | inr before ↦
      in_front (allowed_below schema class whole) (if is_allowed schema class whole then record { 0 = whole } ∷ []
      else [])
      (length (allowed_below schema class n)) (record { 0 = n }) (allowed_at schema class n whole before is)
]
