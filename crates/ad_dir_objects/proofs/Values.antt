-- The values of an attribute, as a walk over the attributes finds them.
use Rattle.std.proofs.Common.{Bool, eqb, true, false, if◌then◌else◌, Some, ◌≡◌, ℕ, ◌+◌, ◌<◌, ◌≤◌, List, [], ◌∷◌}
use Rattle.std.proofs.Common.{length, map, drop, get_or, sym, ap, ◌∙◌}
use Rattle.std.specs.Prelude.{find}
use Rattle.std.specs.Option.{option_map_or}
use Rattle.std.specs.Cmp.{unsigned_Decides}
use Rattle.std.proofs.lemmas.Bool.{false_from_ne_true}
use Rattle.std.proofs.lemmas.List.{at_drop_more, drop_all}
use Rattle.ad_schema.specs.declared.info.AttrId.{AttrId}
use Rattle.ad_dir_objects.specs.declared.object.Stored.{Stored as StoredIn}
use Rattle.ad_dir_objects.specs.Seen.{stored_seen, held_seen}
use Rattle.ad_dir_model.specs.Object.{Held, stored_in, is_held}

abbrev pub Attr : Type 0
Attr = AttrId × List StoredIn

pub same_is : (a b : ℕ) → a ≡ b → eqb a b ≡ true
same_is a b e = (unsigned_Decides a b).1 e

pub other_is : (a b : ℕ) → (a ≡ b → ⊥) → eqb a b ≡ false
other_is a b differ = false_from_ne_true (eqb a b) (λ t. differ ((unsigned_Decides a b).0 t))

-- what is left from a place on is what stands there, and the rest
pub from_here : (values : List Attr) (i attr : ℕ) (item : Attr) → i < length values → item ≡ get_or values i item
    → stored_in (map held_seen (drop i values)) attr ≡ stored_in (map held_seen (item ∷ drop (i + 1) values)) attr
from_here values i attr item lt is =
    at_drop_more (λ (left : List Attr). stored_in (map held_seen left) attr) values i item lt
    ∙ ap (λ (a : Attr). stored_in (map held_seen (a ∷ drop (i + 1) values)) attr) (sym is)

pub stored_here : (item : Attr) (rest : List Attr) (attr : ℕ) → eqb item.0.0 attr ≡ true
    → stored_in (map held_seen (item ∷ rest)) attr ≡ map stored_seen item.1
unfolding stored_in
stored_here item rest attr e = ap (λ (t : Bool). option_map_or (λ (held : Held). held.values)
    (if t then Some (held_seen item) else find (is_held attr) (map held_seen rest)) []) e

pub stored_later : (item : Attr) (rest : List Attr) (attr : ℕ) → eqb item.0.0 attr ≡ false
    → stored_in (map held_seen (item ∷ rest)) attr ≡ stored_in (map held_seen rest) attr
unfolding stored_in
stored_later item rest attr e = ap (λ (t : Bool). option_map_or (λ (held : Held). held.values)
    (if t then Some (held_seen item) else find (is_held attr) (map held_seen rest)) []) e

pub none_left : (values : List Attr) (i attr : ℕ) → length values ≤ i → stored_in (map held_seen (drop i values)) attr
    ≡ []
unfolding stored_in
none_left values i attr le = ap (λ (left : List Attr). stored_in (map held_seen left) attr) (drop_all i values le)
