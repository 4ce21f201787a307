-- The labels of a mask are those of the rights that are granted.
use Rattle.std.proofs.Common.{◌≡◌, ◌∙◌, ◌<◌, ℕ, suc, Bool, true, List, [], ◌∷◌, ◌++◌, refl, sym, ap, arith}
use Rattle.std.proofs.Common.{◌+◌, length, take, get_or, lit<}
use Rattle.std.specs.List.{flat_map}
use Rattle.std.proofs.lemmas.List.{take_more, flat_map_more}
use Rattle.std.proofs.lemmas.List.Elements.{All-from_recursion}
use Rattle.std.specs.Prelude.{All, ◌&&◌, codes, slice_get, Option, None, Some, if◌then◌else◌}
use Rattle.std.specs.Option.{option_map_or}
use Rattle.ad_ids.specs.declared.guid.Guid.{Guid}
use Rattle.ad_acl.specs.Mask.{has_bit, mapped_has}
use Rattle.ad_schema.specs.declared.info.AttrId.{AttrId}
use Rattle.ad_schema.specs.declared.info.AttrInfo.{AttrInfo}
use Rattle.ad_schema.specs.declared.info.ClassId.{ClassId}
use Rattle.ad_schema.specs.Attributes.{attrs_of}
use Rattle.ad_types.specs.TypesOf.{path_of}
use Rattle.ad_schema.specs.declared.line.SchemaRecord.{SchemaRecord}
use Rattle.ad_access_dir.specs.Masks.{IsMask}
use Rattle.ad_access_dir.specs.Labels.{label_of}
use Rattle.ad_acl.specs.declared.codes.Code.{Code}
use Rattle.ad_diff_rights.specs.Rights.{label_if, labels, object_codes, attribute_codes, extended_codes}
use Rattle.ad_diff_rights.specs.Rights.{validated_codes}
use Rattle.ad_diff_rights.specs.Rights.{child_codes, attribute_labels}
use Rattle.ad_diff_rights.specs.Steps.{AreWanted, masked_attribute}

pub labels_are : (want mask : ℕ) (grants : ℕ → Bool) (kind : List ℕ) (all : List Code) → IsMask want grants mask
    → AreWanted want all → labels (has_bit mask) kind all ≡ labels grants kind all
unfolding labels
labels_are want mask grants kind [] is wanted = refl
labels_are want mask grants kind (code ∷ others) is wanted =
    let own : (code.place < 32) × (mapped_has want code.place ≡ true) = wanted 0 code (omega arith) in
    let bit : has_bit mask code.place ≡ grants code.place = is.bits code.place own.0
    ∙ ap (λ (b : Bool). b && grants code.place) own.1 in
    ap (λ (b : Bool). (if b then (kind ++ code.letters) ∷ [] else []) ++ labels (has_bit mask) kind others) bit
    ∙ ap (λ (rest : List (List ℕ)). label_if grants kind code ++ rest)
    (labels_are want mask grants kind others is (λ i d lt. wanted (suc i) d (omega (arith, lt))))

-- ---- each code is asked for

pub object_wanted : AreWanted 0xf01ff object_codes
unfolding has_bit
object_wanted = All-from_recursion (λ (code : Code). (code.place < 32) × (mapped_has 0xf01ff code.place ≡ true))
    object_codes (
      (lit< tt, refl),
      (
        (lit< tt, refl),
        (
          (lit< tt, refl),
          (
            (lit< tt, refl),
            (
              (lit< tt, refl),
              (
                (lit< tt, refl),
                (
                  (lit< tt, refl),
                  (
                    (lit< tt, refl),
                    (
                      (lit< tt, refl),
                      (
                        (lit< tt, refl),
                        ((lit< tt, refl), ((lit< tt, refl), ((lit< tt, refl), tt))),
                      ),
                    ),
                  ),
                ),
              ),
            ),
          ),
        ),
      ),
    )

pub attribute_wanted : AreWanted 0x130 attribute_codes
unfolding has_bit
attribute_wanted = All-from_recursion (λ (code : Code). (code.place < 32) × (mapped_has 0x130 code.place ≡ true))
    attribute_codes ((lit< tt, refl), ((lit< tt, refl), ((lit< tt, refl), tt)))

pub extended_wanted : AreWanted 0x100 extended_codes
unfolding has_bit
extended_wanted = All-from_recursion (λ (code : Code). (code.place < 32) × (mapped_has 0x100 code.place ≡ true))
    extended_codes ((lit< tt, refl), tt)

pub validated_wanted : AreWanted 0x8 validated_codes
unfolding has_bit
validated_wanted = All-from_recursion (λ (code : Code). (code.place < 32) × (mapped_has 0x8 code.place ≡ true))
    validated_codes ((lit< tt, refl), tt)

pub child_wanted : AreWanted 0x3 child_codes
unfolding has_bit
child_wanted = All-from_recursion (λ (code : Code). (code.place < 32) × (mapped_has 0x3 code.place ≡ true))
    child_codes ((lit< tt, refl), ((lit< tt, refl), tt))

pub low : (want : ℕ) (all : List Code) → AreWanted want all → All (λ (code : Code). code.place < 32) all
low want all wanted i d lt = (wanted i d lt).0

-- ---- an attribute

pub masked_is : (schema : List SchemaRecord) (grants : List Guid → ℕ → Bool) (class : ClassId) (id : AttrId) (mask : ℕ)
    → IsMask 0x130 (grants (path_of schema class id)) mask
    → masked_attribute schema id mask ≡ attribute_labels schema grants class id
unfolding masked_attribute attribute_labels
masked_is schema grants class id mask is = by_info (slice_get (attrs_of schema) id.0)
  where
    by_info : (found : Option AttrInfo)
        → option_map_or (λ (info : AttrInfo). labels (has_bit mask) (label_of (codes "attribute ") info.name)
        attribute_codes) found []
        ≡ option_map_or (λ (info : AttrInfo). labels (grants (path_of schema class id))
        (label_of (codes "attribute ") info.name) attribute_codes) found []
    by_info None = refl
    by_info (Some info) = labels_are 0x130 mask (grants (path_of schema class id))
        (label_of (codes "attribute ") info.name) attribute_codes is attribute_wanted

-- ---- labels that grow

pub flat_more : {A B : Type 0} (f : A → List B) (xs : List A) (i : ℕ) (d : A) (before mid after piece : List B)
    → i < length xs → mid ≡ before ++ flat_map f (take i xs) → piece ≡ f (get_or xs i d) → after ≡ mid ++ piece
    → after ≡ before ++ flat_map f (take (i + 1) xs)
flat_more {A} {B} f xs i d before mid after piece lt is same put =
    put
    ∙ ap (λ (t : List B). t ++ piece) is
    ∙ ap (λ (t : List B). (before ++ flat_map f (take i xs)) ++ t) same
    ∙ flat_map_more f before (take i xs) (get_or xs i d)
    ∙ ap (λ (t : List A). before ++ flat_map f t) (sym (take_more xs i d lt))
