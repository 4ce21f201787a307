-- The attributes of an addition, one after the other.
use Rattle.std.proofs.Common.{◌≡◌, ℕ, ◌+◌, ◌<◌, ◌≤◌, Bool, true, false, List, [], ◌∷◌, ◌++◌, Option, Some, None, refl}
use Rattle.std.proofs.Common.{sym, ap, subst, ◌∙◌, get_or, length, drop, take}
use Rattle.std.specs.Prelude.{option_map, find, is_some, map, filter, filter_map, not, ◌||◌, if◌then◌else◌}
use Rattle.std.proofs.Math.Bool.{or-false, or-true}
use Rattle.std.specs.Option.{option_map_or}
use Rattle.std.specs.List.{flat_map, list_any, list_all, cons_option}
use Rattle.std.specs.Str.{bytes_eq}
use Rattle.std.proofs.lemmas.List.{at_drop_more, at_drop_all, take_more, take_all, map-append}
use Rattle.std.proofs.lemmas.List.Elements.{filter-append, filter_map-append}
use Rattle.ad_schema.specs.declared.line.SchemaRecord.{SchemaRecord}
use Rattle.ad_schema.specs.declared.info.AttrId.{AttrId}
use Rattle.ad_dir_model.specs.Attributes.{attr_place}
use Rattle.ad_needs_rules.specs.declared.outcome.Verdict.{Verdict}
use Rattle.ad_needs_rules.specs.declared.outcome.Verdict.TheVariants.{Refused}
use Rattle.ad_needs_rules.specs.Checks.{Check, or_code, first_failing}
use Rattle.ad_needs_rules.specs.Adding.{is_of, is_kept_back, naming_checks, all_naming_checks, ordinary, own_checks}
use Rattle.ad_needs_rules.specs.Adding.{is_value, by_id}
use Rattle.ad_needs.specs.Additions.{checks_of, unplaced_checks}
use Rattle.ad_needs_rules.specs.Judged.{refusal_of}
use Rattle.ad_needs_rules.proofs.Refusing.{none_of, goes_on_if, stops_if}
use Rattle.ad_needs_rules.proofs.NameChecks.{coded, holds}
use Rattle.ad_needs_rules.specs.Requests.{is_descriptor}
use Rattle.ad_dir_model.specs.Shown.{is_naming}

-- ---- their names

pub names_stop : (schema : List SchemaRecord) (attrs : List (List ℕ × List (List ℕ))) (i : ℕ)
    (x : List ℕ × List (List ℕ)) (found : Option Verdict)
    → i < length attrs → x ≡ get_or attrs i x → is_some found ≡ true → found
    ≡ refusal_of (naming_checks schema (take i attrs) x)
    → found ≡ refusal_of (all_naming_checks schema (take i attrs) (drop i attrs))
unfolding all_naming_checks
names_stop schema attrs i x found lt at some is =
    stops_if (naming_checks schema (take i attrs) x)
    (all_naming_checks schema (take i attrs ++ x ∷ []) (drop (i + 1) attrs)) found some is
    ∙ ap (λ (y : List ℕ × List (List ℕ)). refusal_of
    (all_naming_checks schema (take i attrs) (y ∷ drop (i + 1) attrs))) at
    ∙ sym (at_drop_more (λ (rest : List (List ℕ × List (List ℕ))). refusal_of
    (all_naming_checks schema (take i attrs) rest)) attrs i x lt)

pub names_more : (schema : List SchemaRecord) (attrs : List (List ℕ × List (List ℕ))) (i : ℕ)
    (x : List ℕ × List (List ℕ)) (found : Option Verdict)
    → i < length attrs → x ≡ get_or attrs i x → is_some found ≡ false → found
    ≡ refusal_of (naming_checks schema (take i attrs) x)
    → refusal_of (all_naming_checks schema (take i attrs) (drop i attrs))
    ≡ refusal_of (all_naming_checks schema (take (i + 1) attrs) (drop (i + 1) attrs))
unfolding all_naming_checks
names_more schema attrs i x found lt at none is =
    at_drop_more (λ (rest : List (List ℕ × List (List ℕ))). refusal_of (all_naming_checks schema (take i attrs) rest))
    attrs i x lt
    ∙ ap (λ (y : List ℕ × List (List ℕ)). refusal_of
    (all_naming_checks schema (take i attrs) (y ∷ drop (i + 1) attrs))) (sym at)
    ∙ goes_on_if (naming_checks schema (take i attrs) x)
    (all_naming_checks schema (take i attrs ++ x ∷ []) (drop (i + 1) attrs)) found none is
    ∙ ap (λ (earlier : List (List ℕ × List (List ℕ))). refusal_of
    (all_naming_checks schema earlier (drop (i + 1) attrs)))
    (ap (λ (y : List ℕ × List (List ℕ)). take i attrs ++ y ∷ []) at ∙ sym (take_more attrs i x lt))

pub names_end : (schema : List SchemaRecord) (attrs : List (List ℕ × List (List ℕ))) (i : ℕ) → length attrs ≤ i
    → None ≡ refusal_of (all_naming_checks schema (take i attrs) (drop i attrs))
unfolding all_naming_checks refusal_of first_failing
names_end schema attrs i le = sym (at_drop_all
    (λ (rest : List (List ℕ × List (List ℕ))). refusal_of (all_naming_checks schema (take i attrs) rest)) attrs i le)

-- ---- the checks of each

one_front : {A B : Type 0} (g : A → Option B) (f : B → List Check) (x : A) (rest : List A)
    → flat_map f (filter_map g (x ∷ rest)) ≡ option_map_or f (g x) [] ++ flat_map f (filter_map g rest)
one_front {A} {B} g f x rest = by (g x)
  where
    by : (o : Option B) → flat_map f (cons_option o (filter_map g rest)) ≡ option_map_or f o []
        ++ flat_map f (filter_map g rest)
    by None = refl
    by (Some y) = refl

pub checks_front : (schema : List SchemaRecord) (class : ℕ) (value : List ℕ) (x : List ℕ × List (List ℕ))
    (rest : List (List ℕ × List (List ℕ)))
    → flat_map (own_checks schema class value) (filter_map (ordinary schema) (x ∷ rest))
    ≡ checks_of schema class value x ++ flat_map (own_checks schema class value) (filter_map (ordinary schema) rest)
unfolding checks_of
checks_front schema class value x rest = one_front (ordinary schema) (own_checks schema class value) x rest

pub checks_stop : (schema : List SchemaRecord) (class : ℕ) (value : List ℕ) (attrs : List (List ℕ × List (List ℕ)))
    (i : ℕ) (x : List ℕ × List (List ℕ)) (found : Option Verdict)
    → i < length attrs → x ≡ get_or attrs i x → is_some found ≡ true → found
    ≡ refusal_of (checks_of schema class value x)
    → found ≡ refusal_of (flat_map (own_checks schema class value) (filter_map (ordinary schema) (drop i attrs)))
checks_stop schema class value attrs i x found lt at some is =
    stops_if (checks_of schema class value x)
    (flat_map (own_checks schema class value) (filter_map (ordinary schema) (drop (i + 1) attrs))) found some is
    ∙ ap refusal_of (sym (checks_front schema class value x (drop (i + 1) attrs)))
    ∙ ap (λ (y : List ℕ × List (List ℕ)). refusal_of
    (flat_map (own_checks schema class value) (filter_map (ordinary schema) (y ∷ drop (i + 1) attrs)))) at
    ∙ sym (at_drop_more (λ (rest : List (List ℕ × List (List ℕ))). refusal_of
    (flat_map (own_checks schema class value) (filter_map (ordinary schema) rest))) attrs i x lt)

pub checks_more : (schema : List SchemaRecord) (class : ℕ) (value : List ℕ) (attrs : List (List ℕ × List (List ℕ)))
    (i : ℕ) (x : List ℕ × List (List ℕ)) (found : Option Verdict)
    → i < length attrs → x ≡ get_or attrs i x → is_some found ≡ false → found
    ≡ refusal_of (checks_of schema class value x)
    → refusal_of (flat_map (own_checks schema class value) (filter_map (ordinary schema) (drop i attrs)))
    ≡ refusal_of (flat_map (own_checks schema class value) (filter_map (ordinary schema) (drop (i + 1) attrs)))
checks_more schema class value attrs i x found lt at none is =
    at_drop_more (λ (rest : List (List ℕ × List (List ℕ))). refusal_of
    (flat_map (own_checks schema class value) (filter_map (ordinary schema) rest))) attrs i x lt
    ∙ ap (λ (y : List ℕ × List (List ℕ)). refusal_of
    (flat_map (own_checks schema class value) (filter_map (ordinary schema) (y ∷ drop (i + 1) attrs)))) (sym at)
    ∙ ap refusal_of (checks_front schema class value x (drop (i + 1) attrs))
    ∙ goes_on_if (checks_of schema class value x)
    (flat_map (own_checks schema class value) (filter_map (ordinary schema) (drop (i + 1) attrs))) found none is

pub checks_end : (schema : List SchemaRecord) (class : ℕ) (value : List ℕ) (attrs : List (List ℕ × List (List ℕ)))
    (i : ℕ) → length attrs ≤ i
    → None ≡ refusal_of (flat_map (own_checks schema class value) (filter_map (ordinary schema) (drop i attrs)))
unfolding refusal_of first_failing
checks_end schema class value attrs i le =
    sym (at_drop_all (λ (rest : List (List ℕ × List (List ℕ))). refusal_of
    (flat_map (own_checks schema class value) (filter_map (ordinary schema) rest))) attrs i le)

-- the checks of an ordinary attribute, and of another
pub checks_some : (schema : List SchemaRecord) (class : ℕ) (value : List ℕ) (x : List ℕ × List (List ℕ))
    (y : ℕ × List (List ℕ)) → Some y ≡ ordinary schema x
    → refusal_of (own_checks schema class value y) ≡ refusal_of (checks_of schema class value x)
unfolding checks_of
checks_some schema class value x y is = ap
    (λ (o : Option (ℕ × List (List ℕ))). refusal_of (option_map_or (own_checks schema class value) o [])) is

pub checks_none : (schema : List SchemaRecord) (class : ℕ) (value : List ℕ) (x : List ℕ × List (List ℕ)) → None
    ≡ ordinary schema x
    → None ≡ refusal_of (checks_of schema class value x)
unfolding checks_of refusal_of first_failing
checks_none schema class value x is = ap (λ (o : Option (ℕ × List (List ℕ))). refusal_of
    (option_map_or (own_checks schema class value) o [])) is

-- ---- what the object gets

-- what it gets of some attributes
abbrev pub gets : List SchemaRecord → ℕ → List (List ℕ × List (List ℕ)) → List (AttrId × List (List ℕ))
gets schema class attrs = map by_id (filter (λ attr. is_value schema class attr.0) (filter_map (ordinary schema) attrs))

pub gets_append : (schema : List SchemaRecord) (class : ℕ) (xs ys : List (List ℕ × List (List ℕ)))
    → gets schema class (xs ++ ys) ≡ gets schema class xs ++ gets schema class ys
gets_append schema class xs ys =
    ap (λ (all : List (ℕ × List (List ℕ))). map by_id (filter (λ attr. is_value schema class attr.0) all))
    (filter_map-append (ordinary schema) xs ys)
    ∙ ap (map by_id) (filter-append (λ (attr : ℕ × List (List ℕ)). is_value schema class attr.0)
    (filter_map (ordinary schema) xs) (filter_map (ordinary schema) ys))
    ∙ map-append by_id (filter (λ attr. is_value schema class attr.0) (filter_map (ordinary schema) xs))
    (filter (λ attr. is_value schema class attr.0) (filter_map (ordinary schema) ys))

pub gets_some : (schema : List SchemaRecord) (class : ℕ) (x : List ℕ × List (List ℕ)) (id : AttrId) → Some (id.0, x.1)
    ≡ ordinary schema x
    → is_value schema class id.0 ≡ true → (id, x.1) ∷ [] ≡ gets schema class (x ∷ [])
gets_some schema class x id is gets' =
    subst (λ (o : Option (ℕ × List (List ℕ))). (id, x.1) ∷ []
    ≡ map by_id (filter (λ attr. is_value schema class attr.0) (cons_option o []))) is
    (rw gets' refl)

pub gets_not : (schema : List SchemaRecord) (class : ℕ) (x : List ℕ × List (List ℕ)) (id : AttrId) → Some (id.0, x.1)
    ≡ ordinary schema x
    → is_value schema class id.0 ≡ false → [] ≡ gets schema class (x ∷ [])
gets_not schema class x id is gets' =
    subst (λ (o : Option (ℕ × List (List ℕ))). []
    ≡ map by_id (filter (λ attr. is_value schema class attr.0) (cons_option o []))) is
    (rw gets' refl)

pub gets_none : (schema : List SchemaRecord) (class : ℕ) (x : List ℕ × List (List ℕ)) → None ≡ ordinary schema x → []
    ≡ gets schema class (x ∷ [])
gets_none schema class x is =
    ap (λ (o : Option (ℕ × List (List ℕ))). map by_id
    (filter (λ attr. is_value schema class attr.0) (cons_option o []))) is

pub gets_more : (schema : List SchemaRecord) (class : ℕ) (attrs : List (List ℕ × List (List ℕ))) (i : ℕ)
    (x : List ℕ × List (List ℕ)) (before after : List (AttrId × List (List ℕ)))
    → i < length attrs → x ≡ get_or attrs i x → before ≡ gets schema class (take i attrs) → after ≡ before
    ++ gets schema class (x ∷ [])
    → after ≡ gets schema class (take (i + 1) attrs)
gets_more schema class attrs i x before after lt at is put =
    put ∙ ap (λ (b : List (AttrId × List (List ℕ))). b ++ gets schema class (x ∷ [])) is
    ∙ sym (gets_append schema class (take i attrs) (x ∷ []))
    ∙ ap (gets schema class) (ap (λ (y : List ℕ × List (List ℕ)). take i attrs ++ y ∷ []) at
    ∙ sym (take_more attrs i x lt))

pub gets_all : (schema : List SchemaRecord) (class : ℕ) (attrs : List (List ℕ × List (List ℕ))) (i : ℕ)
    (values : List (AttrId × List (List ℕ))) → length attrs ≤ i
    → values ≡ gets schema class (take i attrs) → values ≡ gets schema class attrs
gets_all schema class attrs i values le is = is ∙ ap (gets schema class) (take_all i attrs le)

-- ---- one attribute

-- one that the schema has is refused where it was named before
pub first_said : (schema : List SchemaRecord) (earlier : List (List ℕ × List (List ℕ)))
    (attr : List ℕ × List (List ℕ)) (place : ℕ) (first flag : Bool)
    → attr_place schema attr.0 ≡ Some place → first ≡ not flag → flag ≡ list_any (is_of attr.0) earlier
    → (if first then None else Some (Refused 20)) ≡ refusal_of (naming_checks schema earlier attr)
first_said schema earlier attr place first flag at is named =
    ap (λ (b : Bool). if b then None else Some (Refused 20)) (is ∙ ap not named)
    ∙ by_twice (list_any (is_of attr.0) earlier)
    ∙ sym (holds (or_code (not (list_any (is_of attr.0) earlier)) 20 ∷ []) 17
    (is_descriptor attr.0 || is_some (attr_place schema attr.0)) known)
  where
    known : (is_descriptor attr.0 || is_some (attr_place schema attr.0)) ≡ true
    known = ap (λ (found : Option ℕ). is_descriptor attr.0 || is_some found) at ∙ or-true (is_descriptor attr.0)

    by_twice : (twice : Bool) → (if not twice then None else Some (Refused 20))
        ≡ refusal_of (or_code (not twice) 20 ∷ [])
    by_twice true = coded [] 20 false refl
    by_twice false = none_of ∙ sym (holds [] 20 true refl)

-- one that it hasn't
pub unplaced_said : (schema : List SchemaRecord) (earlier : List (List ℕ × List (List ℕ)))
    (attr : List ℕ × List (List ℕ))
    → attr_place schema attr.0 ≡ None → unplaced_checks earlier attr.0 ≡ naming_checks schema earlier attr
unplaced_said schema earlier attr at =
    ap (λ (known : Bool). or_code known 17 ∷ or_code (not (list_any (is_of attr.0) earlier)) 20 ∷ [])
    (sym (ap (λ (found : Option ℕ). is_descriptor attr.0 || is_some found) at ∙ or-false (is_descriptor attr.0)))

pub unplaced_unknown : (earlier : List (List ℕ × List (List ℕ))) (name : List ℕ) → is_descriptor name ≡ false
    → Some (Refused 17) ≡ refusal_of (unplaced_checks earlier name)
unplaced_unknown earlier name other = coded (or_code (not (list_any (is_of name) earlier)) 20 ∷ []) 17
    (is_descriptor name) other

pub unplaced_twice : (earlier : List (List ℕ × List (List ℕ))) (name : List ℕ) → is_descriptor name ≡ true
    → list_any (is_of name) earlier ≡ true
    → Some (Refused 20) ≡ refusal_of (unplaced_checks earlier name)
unplaced_twice earlier name is twice =
    coded [] 20 (not (list_any (is_of name) earlier)) (ap not twice)
    ∙ sym (holds (or_code (not (list_any (is_of name) earlier)) 20 ∷ []) 17 (is_descriptor name) is)

pub unplaced_good : (earlier : List (List ℕ × List (List ℕ))) (name : List ℕ) → is_descriptor name ≡ true
    → list_any (is_of name) earlier ≡ false
    → None ≡ refusal_of (unplaced_checks earlier name)
unplaced_good earlier name is once =
    none_of
    ∙ sym (holds [] 20 (not (list_any (is_of name) earlier)) (ap not once))
    ∙ sym (holds (or_code (not (list_any (is_of name) earlier)) 20 ∷ []) 17 (is_descriptor name) is)

pub sent_more : (attrs : List (List ℕ × List (List ℕ))) (i : ℕ) (x : List ℕ × List (List ℕ)) → i < length attrs → x
    ≡ get_or attrs i x
    → take i attrs ++ x ∷ [] ≡ take (i + 1) attrs
sent_more attrs i x lt is = sym (take_more attrs i x lt ∙ ap (λ (y : List ℕ × List (List ℕ)). take i attrs ++ y ∷ [])
    (sym is))

pub own_kept : (schema : List SchemaRecord) (class : ℕ) (value : List ℕ) (attr : ℕ × List (List ℕ))
    → is_kept_back schema attr.0 ≡ true
    → Some (Refused 53) ≡ refusal_of (own_checks schema class value attr)
own_kept schema class value attr kept =
    coded (or_code (not (is_naming schema class attr.0) || list_all (bytes_eq value) attr.1) 64 ∷ []) 53
    (not (is_kept_back schema attr.0)) (ap not kept)

pub own_other : (schema : List SchemaRecord) (class : ℕ) (value : List ℕ) (attr : ℕ × List (List ℕ))
    → is_kept_back schema attr.0 ≡ false
    → (not (is_naming schema class attr.0) || list_all (bytes_eq value) attr.1) ≡ false → Some (Refused 64)
    ≡ refusal_of (own_checks schema class value attr)
own_other schema class value attr free other =
    coded [] 64 (not (is_naming schema class attr.0) || list_all (bytes_eq value) attr.1) other
    ∙ sym (holds (or_code (not (is_naming schema class attr.0) || list_all (bytes_eq value) attr.1) 64 ∷ []) 53
    (not (is_kept_back schema attr.0)) (ap not free))

pub own_good : (schema : List SchemaRecord) (class : ℕ) (value : List ℕ) (attr : ℕ × List (List ℕ))
    → is_kept_back schema attr.0 ≡ false
    → (not (is_naming schema class attr.0) || list_all (bytes_eq value) attr.1) ≡ true → None
    ≡ refusal_of (own_checks schema class value attr)
own_good schema class value attr free good =
    none_of
    ∙ sym (holds [] 64 (not (is_naming schema class attr.0) || list_all (bytes_eq value) attr.1) good)
    ∙ sym (holds (or_code (not (is_naming schema class attr.0) || list_all (bytes_eq value) attr.1) 64 ∷ []) 53
    (not (is_kept_back schema attr.0)) (ap not free))

-- ---- what was sent of an attribute

pub found_here : (name : List ℕ) (attrs : List (List ℕ × List (List ℕ))) (i : ℕ) (x : List ℕ × List (List ℕ)) → i
    < length attrs → x ≡ get_or attrs i x
    → is_of name x ≡ true → Some x.1 ≡ option_map (λ attr. attr.1) (find (is_of name) (drop i attrs))
found_here name attrs i x lt at is =
    rw is refl
    ∙ ap (λ (y : List ℕ × List (List ℕ)). option_map (λ attr. attr.1) (find (is_of name) (y ∷ drop (i + 1) attrs))) at
    ∙ sym (at_drop_more (λ (rest : List (List ℕ × List (List ℕ))). option_map (λ attr. attr.1)
    (find (is_of name) rest)) attrs i x lt)

pub found_later : (name : List ℕ) (attrs : List (List ℕ × List (List ℕ))) (i : ℕ) (x : List ℕ × List (List ℕ)) → i
    < length attrs → x ≡ get_or attrs i x
    → is_of name x ≡ false
    → option_map (λ attr. attr.1) (find (is_of name) (drop i attrs)) ≡ option_map (λ attr. attr.1)
    (find (is_of name) (drop (i + 1) attrs))
found_later name attrs i x lt at other =
    at_drop_more (λ (rest : List (List ℕ × List (List ℕ))). option_map (λ attr. attr.1) (find (is_of name) rest))
    attrs i x lt
    ∙ ap (λ (y : List ℕ × List (List ℕ)). option_map (λ attr. attr.1) (find (is_of name) (y ∷ drop (i + 1) attrs)))
    (sym at)
    ∙ rw other refl

pub found_none : (name : List ℕ) (attrs : List (List ℕ × List (List ℕ))) (i : ℕ) → length attrs ≤ i
    → None ≡ option_map (λ attr. attr.1) (find (is_of name) (drop i attrs))
found_none name attrs i le = sym (at_drop_all
    (λ (rest : List (List ℕ × List (List ℕ))). option_map (λ attr. attr.1) (find (is_of name) rest)) attrs i le)
