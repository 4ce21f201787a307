-- A GUID is read from a text as the toolchain's reader of all forms reads it.
use Rattle.std.proofs.Common.{Bool, eqb, true, false, if◌then◌else◌, Option, Some, None, unwrap_or, ◌≡◌, ℕ, List}
use Rattle.std.proofs.Common.{length, refl, sym, ap, ◌∙◌, arith}
use Rattle.std.specs.Prelude.{option_map}
use Rattle.std.proofs.lemmas.Bool.Decides.{nat_tests}
use Rattle.uuid.specs.Text.{lower, hyphenated_text, parsed, parsed_hyphenated}
use Rattle.uuid.specs.Parts.{swap_fields}
use Rattle.uuid.proofs.RoundTrips.{swap_twice}
use Rattle.uuid.proofs.TextLemmas.{by_index_length}
use Rattle.ad_ids.specs.declared.guid.Guid.{Guid}
use Rattle.ad_ids.specs.GuidText.{guid_text, guid_of_text, SpellsGuidText}

abbrev guid : List ℕ → Guid
guid bytes = record { bytes = bytes }

pub some_one : {X : Type 0} (a b : X) → Some a ≡ Some b → a ≡ b
some_one a b e = ap (λ (o : Option _). unwrap_or o a) e

-- what stands after a test that passed
pub tested : {X : Type 0} (b : Bool) (o : Option X) (x : X) → Some x ≡ (if b then o else None) → Some x ≡ o
tested true o x e = e
tested false o x e = absurd cc

-- a text of 36 characters has the one form
pub parsed_at_36 : (s : List ℕ) → length s ≡ 36 → parsed s ≡ parsed_hyphenated s
parsed_at_36 s len = rw len refl

-- what is read has 16 bytes
pub sixteen_read : (s xs : List ℕ) → Some xs ≡ parsed_hyphenated s → length xs ≡ 16
sixteen_read s xs e =
    let inner = tested _ _ xs (tested _ _ xs e) in
    ap length (some_one xs _ inner) ∙ by_index_length 16 _

-- bytes that are read are encoded by the text
pub spelled_by : (s xs bytes : List ℕ) → length s ≡ 36 → Some xs ≡ parsed s → bytes ≡ swap_fields xs
    → SpellsGuidText (guid bytes) s
spelled_by s xs bytes len e same =
    let read : Some xs ≡ parsed_hyphenated s = e ∙ parsed_at_36 s len in
    rw same (refl, sym read ∙ ap Some (sym (swap_twice xs (sixteen_read s xs read))))

-- what the text encodes is what is read
pub read_once : (s xs bytes : List ℕ) (g : Guid) → length s ≡ 36 → Some xs ≡ parsed s → bytes ≡ swap_fields xs
    → SpellsGuidText g s → Some (guid bytes) ≡ Some g
read_once s xs bytes g len e same spelled =
    let first : xs ≡ swap_fields g.bytes = some_one xs (swap_fields g.bytes) (e ∙ parsed_at_36 s len ∙ spelled.1) in
    ap (λ (b : List ℕ). Some (guid b)) (same ∙ ap swap_fields first ∙ swap_twice g.bytes spelled.0)

-- the text that is written has 36 characters
pub length-guid_text : (g : Guid) → length (guid_text g) ≡ 36
length-guid_text g = by_index_length 36 _

pub spelled_by_text : (g : Guid) (xs text : List ℕ) → length g.bytes ≡ 16 → xs ≡ swap_fields g.bytes → text
    ≡ hyphenated_text lower xs → Some xs ≡ parsed text → SpellsGuidText g text
spelled_by_text g xs text sixteen bytes same e =
    let whole : text ≡ guid_text g = same ∙ ap (hyphenated_text lower) bytes in
    let len : length text ≡ 36 = ap length whole ∙ length-guid_text g in
    (sixteen, sym (parsed_at_36 text len) ∙ sym e ∙ ap Some bytes)

-- ---- as a function of the text

none_spelled : (read : Option (List ℕ)) (text : List ℕ) → parsed_hyphenated text ≡ read
    → ((g : Guid) → SpellsGuidText g text → ⊥)
    → None ≡ option_map (λ bytes. guid (swap_fields bytes)) read
none_spelled None text e none = refl
none_spelled (Some xs) text e none = absurd
    (none (guid (swap_fields xs)) (refl, e ∙ ap Some (sym (swap_twice xs (sixteen_read text xs (sym e))))))

-- a text that is read whole is the function's
pub value_read : (g : Guid) (text : List ℕ) → SpellsGuidText g text → Some g ≡ guid_of_text text
unfolding guid_of_text
value_read g text s = rw s.1 (ap (λ (b : List ℕ). Some (guid b)) (sym (swap_twice g.bytes s.0)))

pub value_none : (text : List ℕ) → ((g : Guid) → SpellsGuidText g text → ⊥) → None ≡ guid_of_text text
unfolding guid_of_text
value_none text none = none_spelled (parsed_hyphenated text) text refl none

-- a text of another length
pub value_other : (text : List ℕ) → (length text ≡ 36 → ⊥) → None ≡ guid_of_text text
unfolding guid_of_text
value_other text other =
    let few : eqb (length text) 36 ≡ false = grind (arith, nat_tests) in
    rw few refl
