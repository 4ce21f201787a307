-- Keys are the same exactly where names, or identifiers, are.
use Rattle.std.proofs.Common.{◌≡◌, ◌∙◌, ◌⊎◌, inl, inr, ℕ, ◌-◌, ◌^◌, ◌<◌, List, [], ◌++◌, length, Option, Some, None}
use Rattle.std.proofs.Common.{refl, sym, ap, arith}
use Rattle.std.specs.List.{AllByRecursion}
use Rattle.std.specs.Option.{option_map_or}
use Rattle.ad_bytes.specs.Numbers.{SpellsBe, be_at, be_bytes}
use Rattle.ad_bytes.proofs.Codec.{be_reader, length-be_bytes}
use Rattle.ad_bytes.proofs.Many.{spellings_apart}
use Rattle.ad_ids.specs.SidValue.{SidValue}
use Rattle.ad_ids.specs.Sid.{IsSid, SpellsSid, sid_bytes}
use Rattle.ad_ids.specs.SidReading.{sid_at}
use Rattle.ad_ids.proofs.SidCodec.{sid_reader}
use Rattle.ad_ids.proofs.SidWriting.{length-sid_bytes}
use Rattle.ad_schema.specs.declared.line.SchemaRecord.{SchemaRecord}
use Rattle.ad_dir_model.specs.Object.{Object}
use Rattle.ad_dir_model.specs.Objects.{object_of}
use Rattle.ad_dir_model.specs.Identity.{sid_in}
use Rattle.ad_dir_model.specs.Soundness.{HasOwnSid}
use Rattle.ad_rows_sound.specs.Least.{OfObject, IsLeastObject}
use Rattle.ad_rows_sound.specs.Objects.{HasSmallNumber}
use Rattle.ad_rows_sound.specs.Parts.{name_key, sid_key, HasOwnKey, HasSmallParent, HasSid}
use Rattle.ad_rows_sound.specs.Told.{as_folded, HasNameAlone}
use Rattle.ad_rows_sound.proofs.Finds.{find_all}
use Rattle.ad_rows_sound.proofs.Leasts.{map_least}

be_front : (a b : ℕ) (r s : List ℕ) → a < 2 ^ 32 → b < 2 ^ 32 → be_bytes 4 a ++ r ≡ be_bytes 4 b ++ s → (a ≡ b)
    × (r ≡ s)
be_front a b r s small_a small_b same =
    let three = spellings_apart (SpellsBe 4) (be_at 4) (be_reader 4) a b (be_bytes 4 a) (be_bytes 4 b) r s
    (small_a, refl) (small_b, refl) same in
    (three.0, three.2)

-- ---- names

to_name : (os : List Object) (o : Object) → HasOwnKey name_key os o → HasNameAlone os o
to_name os o own n other found parent same = own n other found (λ i. be_bytes 4 (parent i) ++ same i)

from_name : (os : List Object) (o : Object) → AllByRecursion HasSmallParent os → HasSmallParent o → HasNameAlone os o
    → HasOwnKey name_key os o
from_name os o small own_small alone n other found same =
    let two = be_front other.parent o.parent (as_folded other.name) (as_folded o.name)
    (find_all HasSmallParent os small n other found) own_small same in
    alone n other found two.0 two.1

pub least_name : (os : List Object) (least : Option ℕ) → AllByRecursion HasSmallParent os
    → IsLeastObject (HasOwnKey name_key os) os least → IsLeastObject (HasNameAlone os) os least
least_name os least small is =
    map_least (OfObject os (HasOwnKey name_key os)) (OfObject os (HasNameAlone os)) least
    (λ n own o found. to_name os o (own o found))
    (λ n alone o found. from_name os o small (find_all HasSmallParent os small n o found) (alone o found)) is

-- ---- identifiers

sid_once : (a b : SidValue) → IsSid a → IsSid b → sid_bytes a ≡ sid_bytes b → a ≡ b
sid_once a b is_a is_b same = (spellings_apart SpellsSid sid_at sid_reader a b (sid_bytes a) (sid_bytes b) [] []
    (is_a, refl) (is_b, refl) (ap (λ (t : List ℕ). t ++ []) same)).0

longer : (s : SidValue) (x : ℕ) → sid_bytes s ≡ be_bytes 4 x → ⊥
longer s x same =
    let both : length (sid_bytes s) ≡ length (be_bytes 4 x) = ap length same in
    let long = length-sid_bytes s in
    let short = length-be_bytes 4 x in
    omega (arith, both, long, short)

same_key : (a b : Option SidValue) (x y : ℕ) → ((s : SidValue) → a ≡ Some s → IsSid s)
    → ((s : SidValue) → b ≡ Some s → IsSid s) → x < 2 ^ 32 - 1 → y < 2 ^ 32 - 1
    → option_map_or sid_bytes a (be_bytes 4 x) ≡ option_map_or sid_bytes b (be_bytes 4 y)
    → ((s : SidValue) × (a ≡ Some s) × (b ≡ Some s)) ⊎ (x ≡ y)
same_key None None x y is_a is_b small_x small_y same
    = inr ((be_front x y [] [] (omega (arith, small_x)) (omega (arith, small_y))
    (ap (λ (t : List ℕ). t ++ []) same)).0)
same_key None (Some t) x y is_a is_b small_x small_y same = absurd (longer t x (sym same))
same_key (Some s) None x y is_a is_b small_x small_y same = absurd (longer s y same)
same_key (Some s) (Some t) x y is_a is_b small_x small_y same
    = inl (s, refl, ap (λ (z : SidValue). Some z) (sym (sid_once s t (is_a s refl) (is_b t refl) same)))

to_sid : (schema : List SchemaRecord) (os : List Object) (o : Object) → HasOwnKey (sid_key schema) os o
    → HasOwnSid schema os o
to_sid schema os o own n other sid found has own_has =
    own n other found (ap (λ (s : Option SidValue). option_map_or sid_bytes s (be_bytes 4 other.number)) has
    ∙ sym (ap (λ (s : Option SidValue). option_map_or sid_bytes s (be_bytes 4 o.number)) own_has))

from_sid : (schema : List SchemaRecord) (os : List Object) (n : ℕ) (o : Object) → AllByRecursion (HasSid schema) os
    → AllByRecursion HasSmallNumber os → object_of os n ≡ Some o → HasOwnSid schema os o → HasOwnKey (sid_key schema)
    os o
from_sid schema os n o are small here alone m other found same =
    elim (same_key (sid_in schema other) (sid_in schema o) other.number o.number
    (find_all (HasSid schema) os are m other found) (find_all (HasSid schema) os are n o here)
    (find_all HasSmallNumber os small m other found) (find_all HasSmallNumber os small n o here) same) [
      | inl sid ↦ alone m other sid.0 found sid.1 sid.2
      | inr number ↦ number
    ]

pub least_sid : (schema : List SchemaRecord) (os : List Object) (least : Option ℕ) → AllByRecursion (HasSid schema) os
    → AllByRecursion HasSmallNumber os → IsLeastObject (HasOwnKey (sid_key schema) os) os least
    → IsLeastObject (HasOwnSid schema os) os least
least_sid schema os least are small is =
    map_least (OfObject os (HasOwnKey (sid_key schema) os)) (OfObject os (HasOwnSid schema os)) least
    (λ n own o found. to_sid schema os o (own o found))
    (λ n alone o found. from_sid schema os n o are small found (alone o found)) is
