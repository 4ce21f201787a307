-- Sets of tokens by tests, joined one after the other.
use Rattle.std.proofs.Common.{◌≡◌, ◌∙◌, ℕ, zero, suc, ◌+◌, ◌<◌, Bool, true, false, ◌&&◌, ◌||◌, Some, List, [], ◌∷◌, ◌++◌}
use Rattle.std.proofs.Common.{length, map, replicate, take, get_or, refl, sym, ap, arith}
use Rattle.std.specs.Prelude.{slice_get, Vec}
use Rattle.std.specs.List.{list_any, list_all}
use Rattle.std.specs.declared.alloc.Global.{Global}
use Rattle.std.proofs.Math.Bool.{or-false, and-true}
use Rattle.std.proofs.lemmas.List.{take_more, map-append}
use Rattle.std.proofs.lemmas.List.Folds.{list_any-append, list_all-append}
use Rattle.ad_ids.specs.declared.token.Token.{Token}
use Rattle.ad_types.specs.Path.{guids_of}
use Rattle.ad_dir_model.specs.Directory.{Directory}
use Rattle.ad_needs_rules.specs.Needs.{Alternative as Wanted}
use Rattle.ad_questions.specs.declared.alternative.Alternative.{Alternative}
use Rattle.ad_questions.specs.Requirements.{alternative_seen, requirement_seen, requirements_seen}
use Rattle.ad_rights_judged.specs.Judged.{is_granted_apart, IsJoinOf}
use Rattle.ad_sets.specs.Sets.{joins, IsJoined, Keeps}
use Rattle.ad_rights_rows.specs.Rows.{is_met_apart, are_met_apart}
use Rattle.ad_rights_rows.specs.Kept.{IsSetOf, AreEnds}
use Rattle.ad_rights_rows.specs.declared.bases.Ends.{Ends}

joined_map : (both : Bool) (f g : Token → Bool) (tokens : List Token) (joined : List Bool)
    → IsJoined both (map f tokens) (map g tokens) joined → joined ≡ map (λ (t : Token). joins both (f t) (g t)) tokens
joined_map both f g [] [] is = refl
joined_map both f g [] (b ∷ joined) is = absurd (omega (arith, is.size))
joined_map both f g (t ∷ tokens) [] is = absurd (omega (arith, is.size))
joined_map both f g (t ∷ tokens) (b ∷ joined) is =
    ap (λ (x : Bool). x ∷ joined) (is.each 0 (omega arith))
    ∙ ap (λ (l : List Bool). joins both (f t) (g t) ∷ l) (joined_map both f g tokens joined (record {
      size = omega (arith, is.size);
      each = λ place lt. is.each (suc place) (omega (arith, lt));
    }))

pub joined_set : (both : Bool) (old new : List (List Bool)) (tokens : List Token) (f g : Token → Bool)
    (first second place : ℕ) → IsSetOf old tokens f first → IsSetOf old tokens g second
    → IsJoinOf old new both first second place
    → IsSetOf new tokens (λ (t : Token). joins both (f t) (g t)) place
joined_set both old new tokens f g first second place first_is second_is join =
    let made = join (map f tokens) (map g tokens) first_is second_is in
    made.1 ∙ ap (λ (l : List Bool). Some l) (joined_map both f g tokens made.0 made.2)

-- tests that agree make one set
map_same : (f g : Token → Bool) (tokens : List Token) → ((t : Token) → f t ≡ g t) → map f tokens ≡ map g tokens
map_same f g [] same = refl
map_same f g (t ∷ tokens) same =
    ap (λ (b : Bool). b ∷ map f tokens) (same t) ∙ ap (λ (l : List Bool). g t ∷ l) (map_same f g tokens same)

set_same : (sets : List (List Bool)) (tokens : List Token) (f g : Token → Bool) (place : ℕ) → ((t : Token) → f t ≡ g t)
    → IsSetOf sets tokens f place → IsSetOf sets tokens g place
set_same sets tokens f g place same is = is ∙ ap (λ (l : List Bool). Some l) (map_same f g tokens same)

-- ---- one alternative more

any_more : {X Y : Type 0} (test : Y → Bool) (seen : X → Y) (xs : List X) (i : ℕ) (d : X) → i < length xs
    → list_any test (map seen (take i xs)) || test (seen (get_or xs i d))
    ≡ list_any test (map seen (take (i + 1) xs))
any_more test seen xs i d lt =
    sym (ap (λ l. list_any test (map seen l)) (take_more xs i d lt)
    ∙ ap (list_any test) (map-append seen (take i xs) (get_or xs i d ∷ []))
    ∙ list_any-append test (map seen (take i xs)) (seen (get_or xs i d) ∷ [])
    ∙ ap (λ (b : Bool). list_any test (map seen (take i xs)) || b) (or-false (test (seen (get_or xs i d)))))

all_more : {X Y : Type 0} (test : Y → Bool) (seen : X → Y) (xs : List X) (i : ℕ) (d : X) → i < length xs
    → list_all test (map seen (take i xs)) && test (seen (get_or xs i d))
    ≡ list_all test (map seen (take (i + 1) xs))
all_more test seen xs i d lt =
    sym (ap (λ l. list_all test (map seen l)) (take_more xs i d lt)
    ∙ ap (list_all test) (map-append seen (take i xs) (get_or xs i d ∷ []))
    ∙ list_all-append test (map seen (take i xs)) (seen (get_or xs i d) ∷ [])
    ∙ ap (λ (b : Bool). list_all test (map seen (take i xs)) && b) (and-true (test (seen (get_or xs i d)))))

pub met_more : (dir : Directory) (sets : List (List Bool)) (tokens : List Token) (requirement : List Alternative) (i : ℕ)
    (d : Alternative) (place : ℕ) → i < length requirement
    → IsSetOf sets tokens (λ (t : Token). is_met_apart dir t (map alternative_seen (take i requirement))
    || is_granted_apart dir t (get_or requirement i d).object (guids_of (get_or requirement i d).path)
    (get_or requirement i d).bit) place
    → IsSetOf sets tokens (λ (t : Token). is_met_apart dir t (map alternative_seen (take (i + 1) requirement))) place
met_more dir sets tokens requirement i d place lt is =
    set_same sets tokens _ _ place (λ t.
    any_more (λ (a : Wanted). is_granted_apart dir t a.object a.path a.bit) alternative_seen requirement i d lt) is

pub needed_more : (dir : Directory) (sets : List (List Bool)) (tokens : List Token)
    (needed : List (Vec Alternative Global)) (i : ℕ) (d : Vec Alternative Global) (place : ℕ) → i < length needed
    → IsSetOf sets tokens (λ (t : Token). are_met_apart dir t (requirements_seen (take i needed))
    && is_met_apart dir t (requirement_seen (get_or needed i d))) place
    → IsSetOf sets tokens (λ (t : Token). are_met_apart dir t (requirements_seen (take (i + 1) needed))) place
needed_more dir sets tokens needed i d place lt is =
    set_same sets tokens _ _ place (λ t. all_more (is_met_apart dir t) requirement_seen needed i d lt) is

-- ---- ends

pub constant : (b : Bool) (tokens : List Token) → replicate (length tokens) b ≡ map (λ (t : Token). b) tokens
constant b [] = refl
constant b (t ∷ tokens) = ap (λ (l : List Bool). b ∷ l) (constant b tokens)

pub ends_kept : (old new : List (List Bool)) (tokens : List Token) (ends : Ends) → Keeps old new → AreEnds old tokens ends
    → AreEnds new tokens ends
ends_kept old new tokens ends kept are = record {
  nobody = kept ends.nobody (map (λ (t : Token). false) tokens) are.nobody;
  everybody = kept ends.everybody (map (λ (t : Token). true) tokens) are.everybody;
}
