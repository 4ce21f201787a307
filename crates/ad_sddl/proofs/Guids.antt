-- The GUID of a text.
use Rattle.std.proofs.Common.{eqb, false, Option, Some, None, ◌≡◌, ℕ, ◌<◌, List}
use Rattle.std.proofs.Common.{length, take, refl, sym, ap, ◌∙◌, arith}
use Rattle.std.specs.Prelude.{option_map}
use Rattle.std.proofs.lemmas.List.{length-take}
use Rattle.std.proofs.lemmas.Bool.Decides.{nat_tests}
use Rattle.uuid.specs.Text.{parsed_hyphenated}
use Rattle.uuid.specs.Parts.{swap_fields}
use Rattle.uuid.proofs.RoundTrips.{swap_twice}
use Rattle.ad_ids.specs.declared.guid.Guid.{Guid}
use Rattle.ad_ids.specs.GuidText.{guid_of_text, SpellsGuidText}
use Rattle.ad_ids.proofs.GuidText.{some_one, sixteen_read}

abbrev guid : List ℕ → Guid
guid bytes = record { bytes = bytes }

abbrev swapped : List ℕ → Guid
swapped bytes = guid (swap_fields bytes)

sixteen_swapped : (xs : List ℕ) → length xs ≡ 16 → length (swap_fields xs) ≡ 16
sixteen_swapped xs e = refl

-- too few characters
pub guid_short : (text : List ℕ) → length text < 36 → None ≡ guid_of_text (take 36 text)
unfolding guid_of_text
guid_short text lt =
    let few : eqb (length (take 36 text)) 36 ≡ false = grind (arith, nat_tests, length-take 36 text) in
    rw few refl

pub guid_spelled : (g : Guid) (text : List ℕ) → SpellsGuidText g text → guid_of_text text ≡ Some g
unfolding guid_of_text
guid_spelled g text s = ap (option_map swapped) s.1 ∙ ap (λ (b : List ℕ). Some (guid b)) (swap_twice g.bytes s.0)

from_parsed : (text : List ℕ) (g : Guid) (o : Option (List ℕ)) → parsed_hyphenated text ≡ o → option_map swapped o
    ≡ Some g → SpellsGuidText g text
from_parsed text g None is e = absurd cc
from_parsed text g (Some xs) is e =
    let sixteen : length xs ≡ 16 = sixteen_read text xs (sym is) in
    let bytes : swap_fields xs ≡ g.bytes = ap (λ (h : Guid). h.bytes) (some_one (guid (swap_fields xs)) g e) in
    let back : swap_fields g.bytes ≡ xs = ap swap_fields (sym bytes) ∙ swap_twice xs sixteen in
    (ap length (sym bytes) ∙ sixteen_swapped xs sixteen, is ∙ ap Some (sym back))

pub guid_spells : (text : List ℕ) (g : Guid) → guid_of_text text ≡ Some g → SpellsGuidText g text
unfolding guid_of_text
guid_spells text g e = from_parsed text g (parsed_hyphenated text) refl e
