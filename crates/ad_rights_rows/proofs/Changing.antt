-- What depends on the objects themselves stands at the places of those who hold their identifiers.
use Rattle.std.proofs.Common.{◌≡◌, ◌∙◌, ℕ, zero, suc, Bool, true, false, ◌&&◌, ◌||◌, Option, Some, None, List, [], ◌∷◌, ◌++◌}
use Rattle.std.proofs.Common.{Vec, ◌+◌, ◌<◌, length, map, take, get_or, refl, sym, ap}
use Rattle.std.specs.Prelude.{◌==◌, slice_get}
use Rattle.std.specs.List.{list_any, list_all, flat_map, All}
use Rattle.std.specs.Option.{option_map_or}
use Rattle.std.proofs.lemmas.Bool.{false≢true}
use Rattle.std.specs.declared.alloc.Global.{Global}
use Rattle.std.proofs.lemmas.List.{length-map, map-append, take_more, append-nil, append_assoc}
use Rattle.std.proofs.lemmas.List.Folds.{list_any-append}
use Rattle.std.proofs.lemmas.List.Elements.{All-map}
use Rattle.ad_ids.specs.SidValue.{SidValue}
use Rattle.ad_ids.specs.declared.guid.Guid.{Guid}
use Rattle.ad_ids.specs.declared.token.Token.{Token}
use Rattle.ad_dir_model.specs.Directory.{Directory}
use Rattle.ad_access_dir.specs.Sight.{is_granted}
use Rattle.ad_needs_rules.specs.Needs.{Alternative, is_met}
use Rattle.ad_questions.specs.declared.alternative.Alternative.{Alternative as Kept}
use Rattle.ad_questions.specs.Requirements.{are_met, alternative_seen, requirement_seen, requirements_seen}
use Rattle.ad_rights.specs.Holding.{has}
use Rattle.ad_rights_judged.specs.Judged.{own_places, is_granted_apart}
use Rattle.ad_sets.specs.declared.row.Change.{Change}
use Rattle.ad_sets.specs.Told.{stands_in}
use Rattle.ad_sets.specs.Rows.{is_changed, IsChanged}
use Rattle.ad_rights_rows.specs.Rows.{is_met_apart, are_met_apart}
use Rattle.ad_rights_rows.specs.Steps.{places_of, meets_at, change_at}

-- for the token at a place, the own identifier of an object counts at its places
abbrev pub Law : Directory → List Token → (SidValue → List ℕ) → Type 0
Law dir tokens holders = (number place bit : ℕ) (path : List Guid) (token : Token) → slice_get tokens place ≡ Some token
    → has (own_places dir holders number) place ≡ false
    → is_granted dir token number path bit ≡ is_granted_apart dir token number path bit

at_map : (f : Token → Bool) (tokens : List Token) (place : ℕ) → stands_in (map f tokens) place
    ≡ option_map_or f (slice_get tokens place) false
at_map f [] place = refl
at_map f (t ∷ tokens) zero = refl
at_map f (t ∷ tokens) (suc place) = at_map f tokens place

first : (a b : Bool) → a || b ≡ false → a ≡ false
first true b is = is
first false b is = refl

second : (a b : Bool) → a || b ≡ false → b ≡ false
second true b is = absurd (false≢true (sym is))
second false b is = is

split : (xs ys : List ℕ) (place : ℕ) → has (xs ++ ys) place ≡ false → has xs place || has ys place ≡ false
split xs ys place none = sym (list_any-append (λ (p : ℕ). p == place) xs ys) ∙ none

-- ---- who isn't at the places of what is needed

module _ (dir : Directory) (tokens : List Token) (holders : SidValue → List ℕ) (law : Law dir tokens holders)
    (place : ℕ) (token : Token) (at : slice_get tokens place ≡ Some token) where
  abbrev own : Alternative → List ℕ
  own a = own_places dir holders a.object

  met_same : (requirement : List Alternative) → has (flat_map own requirement) place ≡ false
      → list_any (λ (a : Alternative). is_granted dir token a.object a.path a.bit) requirement
      ≡ is_met_apart dir token requirement
  met_same [] none = refl
  met_same (a ∷ others) none =
      let parts = split (own a) (flat_map own others) place none in
      ap (λ (b : Bool). b || list_any (λ (o : Alternative). is_granted dir token o.object o.path o.bit) others)
      (law a.object place a.bit a.path token at (first (has (own a) place) (has (flat_map own others) place) parts))
      ∙ ap (λ (b : Bool). is_granted_apart dir token a.object a.path a.bit || b)
      (met_same others (second (has (own a) place) (has (flat_map own others) place) parts))

  are_same : (needed : List (List Alternative)) → has (places_of dir holders needed) place ≡ false
      → are_met dir token needed ≡ are_met_apart dir token needed
  unfolding is_met
  are_same [] none = refl
  are_same (requirement ∷ others) none =
      let parts = split (flat_map own requirement) (places_of dir holders others) place none in
      ap (λ (b : Bool). b && are_met dir token others)
      (met_same requirement
      (first (has (flat_map own requirement) place) (has (places_of dir holders others) place) parts))
      ∙ ap (λ (b : Bool). is_met_apart dir token requirement && b)
      (are_same others
      (second (has (flat_map own requirement) place) (has (places_of dir holders others) place) parts))

-- ---- all places

changed_places : (dir : Directory) (tokens : List Token) (needed : List (List Alternative)) (places : List ℕ) (member : ℕ)
    → is_changed (map (change_at dir tokens needed) places) member ≡ has places member
changed_places dir tokens needed [] member = refl
changed_places dir tokens needed (p ∷ places) member =
    ap (λ (b : Bool). (p == member) || b) (changed_places dir tokens needed places member)

elsewhere_step : (dir : Directory) (tokens : List Token) (holders : SidValue → List ℕ) (needed : List (List Alternative))
    (member : ℕ) (found : Option Token) → Law dir tokens holders → slice_get tokens member ≡ found
    → has (places_of dir holders needed) member ≡ false
    → option_map_or (λ (t : Token). are_met dir t needed) found false
    ≡ option_map_or (λ (t : Token). are_met_apart dir t needed) found false
elsewhere_step dir tokens holders needed member None law at none = refl
elsewhere_step dir tokens holders needed member (Some token) law at none =
    are_same dir tokens holders law member token at needed none

pub changed : (dir : Directory) (tokens : List Token) (holders : SidValue → List ℕ) (needed : List (List Alternative))
    → Law dir tokens holders
    → IsChanged (map (λ (t : Token). are_met_apart dir t needed) tokens)
    (map (change_at dir tokens needed) (places_of dir holders needed))
    (map (λ (t : Token). are_met dir t needed) tokens)
changed dir tokens holders needed law = record {
  size = length-map tokens (λ (t : Token). are_met dir t needed)
      ∙ sym (length-map tokens (λ (t : Token). are_met_apart dir t needed));
  there = All-map
      (λ (c : Change). stands_in (map (λ (t : Token). are_met dir t needed) tokens) c.place ≡ c.value)
      (change_at dir tokens needed) (places_of dir holders needed)
      (λ k d lt. at_map (λ (t : Token). are_met dir t needed) tokens _);
  elsewhere = λ member none.
      at_map (λ (t : Token). are_met dir t needed) tokens member
      ∙ elsewhere_step dir tokens holders needed member (slice_get tokens member) law refl
      (sym (changed_places dir tokens needed (places_of dir holders needed) member) ∙ none)
      ∙ sym (at_map (λ (t : Token). are_met_apart dir t needed) tokens member);
}

-- ---- the places, one requirement after the other

seen_places : (own_of : ℕ → List ℕ) (kept : List Kept) → flat_map (λ (a : Kept). own_of (alternative_seen a).object) kept
    ≡ flat_map (λ (a : Alternative). own_of a.object) (map alternative_seen kept)
seen_places own_of [] = refl
seen_places own_of (a ∷ kept) = ap (λ (l : List ℕ). own_of a.object ++ l) (seen_places own_of kept)

flat_push : {X : Type 0} (f : X → List ℕ) (xs : List X) (x : X) → flat_map f (xs ++ x ∷ []) ≡ flat_map f xs ++ f x
flat_push f [] x = append-nil (f x)
flat_push f (y ∷ xs) x =
    ap (λ (l : List ℕ). f y ++ l) (flat_push f xs x) ∙ sym (append_assoc (f y) (flat_map f xs) (f x))

pub places_more : (dir : Directory) (holders : SidValue → List ℕ) (needed : List (Vec Kept Global)) (i : ℕ)
    (d : Vec Kept Global) (old new : List ℕ) → i < length needed
    → old ≡ places_of dir holders (requirements_seen (take i needed))
    → new ≡ old ++ flat_map (λ (a : Kept). own_places dir holders (alternative_seen a).object) (get_or needed i d).items
    → new ≡ places_of dir holders (requirements_seen (take (i + 1) needed))
places_more dir holders needed i d old new lt was is =
    let each : List Alternative → List ℕ = flat_map (λ (a : Alternative). own_places dir holders a.object) in
    is
    ∙ ap (λ (l : List ℕ). l ++ flat_map (λ (a : Kept). own_places dir holders (alternative_seen a).object)
    (get_or needed i d).items) was
    ∙ ap (λ (l : List ℕ). places_of dir holders (requirements_seen (take i needed)) ++ l)
    (seen_places (own_places dir holders) (get_or needed i d).items)
    ∙ sym (ap (λ l. places_of dir holders (requirements_seen l)) (take_more needed i d lt)
    ∙ ap (places_of dir holders) (map-append requirement_seen (take i needed) (get_or needed i d ∷ []))
    ∙ flat_push each (requirements_seen (take i needed)) (requirement_seen (get_or needed i d)))
