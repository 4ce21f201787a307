-- Of which attributes an entry has something, and what it has of them.
use Rattle.std.proofs.Common.{◌≡◌, ℕ, zero, suc, ◌+◌, ◌≤◌, Bool, true, false, ◌&&◌, List, [], ◌∷◌, ◌++◌}
use Rattle.std.proofs.Common.{map, length, drop, Option, Some, None, refl, sym, subst, ap, ◌∙◌}
use Rattle.std.proofs.Common.{append_assoc, arith}
use Rattle.std.specs.Prelude.{nat_eq, slice_get, ◌==◌, if◌then◌else◌, find, filter, codes, option_to_list}
use Rattle.std.specs.Option.{option_map_or}
use Rattle.std.specs.List.{flat_map}
use Rattle.std.specs.List.Sorted.{IsStrictlyIncreasing}
use Rattle.std.proofs.lemmas.Bool.{and_parts, both_ways, ne_eqb, eqb-false}
use Rattle.std.proofs.lemmas.List.{append-nil, drop_all}
use Rattle.std.proofs.lemmas.List.Elements.{filter-append}
use Rattle.std.proofs.lemmas.List.Folds.{list_any-append}
use Rattle.std.proofs.lemmas.Option.{slice_get_past}
use Rattle.ad_ids.specs.declared.token.Token.{Token}
use Rattle.ad_schema.specs.declared.info.AttrInfo.{AttrInfo}
use Rattle.ad_schema.specs.Meaning.{attr_is_back_link}
use Rattle.ad_schema.specs.Attributes.{attrs_of}
use Rattle.ad_schema.specs.Classes.{naming_of}
use Rattle.ad_ldap.specs.MessageValue.{SearchValue}
use Rattle.ad_dir_model.specs.Object.{Held, Object, is_held, stored_in}
use Rattle.ad_dir_model.specs.Objects.{object_at}
use Rattle.ad_dir_model.specs.Attributes.{is_named, syntax_at}
use Rattle.ad_dir_model.specs.Shown.{shown, is_naming, shown_value}
use Rattle.ad_dir_model.specs.Directory.{Directory}
use Rattle.ad_entries.specs.Seen.{is_readable, read_of, reads_from}
use Rattle.ad_entries.specs.Entry.{Given, is_asked, attr_given, attrs_given}
use Rattle.ad_entries.specs.Given.{given_if}
use Rattle.ad_entries.specs.Rising.{is_in}
use Rattle.ad_entries.specs.Asked.{IsUncomputed, LeavesUnasked, LeavesUncomputed}
use Rattle.ad_entries.specs.Places.{is_asked_of, is_asked_at, is_readable_of, is_readable_at, is_given_at, place_if}
use Rattle.ad_entries.specs.Places.{shown_of, shown_at, shown_at_each, HasPlaces, HoldsNone}
use Rattle.ad_entries.proofs.ListLaws.{or_false, neither}
use Rattle.ad_entries.proofs.RisingLaws.{in_filter, is_first, is_further, rises_from, along, gathered}
use Rattle.ad_entries.proofs.EntryLaws.{given_by}

-- ---- what is shown

none_stored : (attr : ℕ) (values : List Held) → HoldsNone attr values → stored_in values attr ≡ []
unfolding stored_in
none_stored attr [] none = refl
none_stored attr (held ∷ values) none =
    let parts = neither (nat_eq attr held.attr) (is_in attr (map (λ (h : Held). h.attr) values)) none in
    let other : (held.attr == attr) ≡ false = ne_eqb held.attr attr (λ (e : held.attr ≡ attr). eqb-false attr
    held.attr parts.0 (sym e)) in
    ap (λ (b : Bool). option_map_or (λ (h : Held). h.values) (if b then Some held else find (is_held attr) values) [])
    other ∙ none_stored attr values parts.1

nothing_by : (dir : Directory) (number attr : ℕ) (back : Bool) (o : Object)
    → stored_in o.values attr ≡ []
    → (if back then [] else map (shown_value dir (syntax_at dir.schema attr)) (stored_in o.values attr)) ≡ []
nothing_by dir number attr true o none = refl
nothing_by dir number attr false o none = ap (map (shown_value dir (syntax_at dir.schema attr))) none

shows_nothing : (dir : Directory) (number attr : ℕ) (o : Object) → o ≡ object_at dir.objects number
    → IsUncomputed dir.schema attr
    → (naming_of dir.schema o.class == attr) ≡ false
    → HoldsNone attr o.values
    → shown dir number attr ≡ []
unfolding shown
shows_nothing dir number attr o is un naming held =
    let names : is_naming dir.schema o.class attr ≡ false
    = or_false (is_named dir.schema (codes "name") attr) (naming_of dir.schema o.class == attr) un.no_name naming in
    let naming_there : is_naming dir.schema (object_at dir.objects number).class attr ≡ false
    = subst (λ (x : Object). is_naming dir.schema x.class attr ≡ false) is names in
    let held_there : HoldsNone attr (object_at dir.objects number).values
    = subst (λ (x : Object). HoldsNone attr x.values) is held in
    rw un.no_class (rw un.no_dn (rw naming_there (nothing_by dir number attr (attr_is_back_link dir.schema attr)
    (object_at dir.objects number) (none_stored attr (object_at dir.objects number).values held_there))))

-- ---- the places of an entry

-- Of those that aren't in the list nothing is shown, or they aren't given.
abbrev IsSource : Directory → Token → ℕ → SearchValue → List ℕ → Type 0
IsSource dir token number search source = (place : ℕ) → is_in place source ≡ false
    → is_given_at dir token number search place ≡ true → shown dir number place ≡ []

by_source : (dir : Directory) (token : Token) (number : ℕ) (search : SearchValue) (source pushed places : List ℕ)
    → IsSource dir token number search source → pushed ≡ filter (is_given_at dir token number search) source
    → IsStrictlyIncreasing places → ((n : ℕ) → is_in n places ≡ is_in n pushed)
    → HasPlaces dir token number search places
by_source dir token number search source pushed places rest is rises same = record {
  rise = rises;
  given = λ n there. (and_parts (is_in n source) (given n) (sym (told n) ∙ there)).1;
  others = λ n not_there so. rest n (left (is_in n source) (given n) so (sym (told n) ∙ not_there)) so;
}
  where
    given : ℕ → Bool
    given = is_given_at dir token number search

    told : (n : ℕ) → is_in n places ≡ (is_in n source && given n)
    told n = same n ∙ ap (is_in n) is ∙ in_filter given n source

    left : (a b : Bool) → b ≡ true → (a && b) ≡ false → a ≡ false
    left true b so lacks = absurd (both_ways b lacks so)
    left false b so lacks = refl

pub has_few : (dir : Directory) (token : Token) (number : ℕ) (search : SearchValue) (few pushed places : List ℕ)
    → LeavesUnasked dir.schema search.attrs few → pushed ≡ filter (is_given_at dir token number search) few
    → IsStrictlyIncreasing places → ((n : ℕ) → is_in n places ≡ is_in n pushed)
    → HasPlaces dir token number search places
has_few dir token number search few pushed places unasked is rises same =
    by_source dir token number search few pushed places
    (λ n not_there so. absurd (both_ways (is_asked_at dir.schema search.attrs n) (unasked n not_there)
    (and_parts (is_asked_at dir.schema search.attrs n) (is_readable_at dir token number n) so).0)) is rises same

-- by what the object holds, its naming attribute, and those that are computed
pub has_own : (dir : Directory) (token : Token) (number naming : ℕ) (search : SearchValue) (o : Object)
    (computed first second third places : List ℕ) → o ≡ object_at dir.objects number
    → naming ≡ naming_of dir.schema o.class → LeavesUncomputed dir.schema computed
    → first ≡ filter (is_given_at dir token number search) (map (λ (h : Held). h.attr) o.values)
    → second ≡ first ++ place_if (is_given_at dir token number search naming) naming
    → third ≡ second ++ filter (is_given_at dir token number search) computed
    → IsStrictlyIncreasing places → ((n : ℕ) → is_in n places ≡ is_in n third)
    → HasPlaces dir token number search places
has_own dir token number naming search o computed first second third places is names uncomputed e1 e2 e3 rises same =
    by_source dir token number search ((held ++ naming ∷ []) ++ computed) third places rest all rises same
  where
    given : ℕ → Bool
    given = is_given_at dir token number search

    held : List ℕ
    held = map (λ (h : Held). h.attr) o.values

    all : third ≡ filter given ((held ++ naming ∷ []) ++ computed)
    all = e3 ∙ ap (λ (xs : List ℕ). xs ++ filter given computed)
        (e2 ∙ ap (λ (xs : List ℕ). xs ++ filter given (naming ∷ [])) e1 ∙ sym (filter-append given held (naming ∷ [])))
        ∙ sym (filter-append given (held ++ naming ∷ []) computed)

    rest : IsSource dir token number search ((held ++ naming ∷ []) ++ computed)
    rest n not_there so =
        let both = neither (is_in n (held ++ naming ∷ [])) (is_in n computed)
        (sym (list_any-append (nat_eq n) (held ++ naming ∷ []) computed) ∙ not_there) in
        let two = neither (is_in n held) (is_in n (naming ∷ [])) (sym (list_any-append (nat_eq n) held (naming ∷ []))
        ∙ both.0) in
        let other : nat_eq n naming ≡ false = (neither (nat_eq n naming) false two.1).0 in
        shows_nothing dir number n o is (uncomputed n both.1)
        (ne_eqb (naming_of dir.schema o.class) n (λ (e : naming_of dir.schema o.class ≡ n). eqb-false n naming other
        (sym (names ∙ e)))) two.0

-- ---- what an entry has

-- an attribute of which nothing is shown isn't there
bare_at : (dir : Directory) (number : ℕ) (types_only : Bool) (place : ℕ) → shown dir number place ≡ []
    → shown_at dir number types_only place ≡ None
unfolding shown_at
bare_at dir number types_only place nothing = by (slice_get (attrs_of dir.schema) place)
  where
    by : (info : Option AttrInfo) → shown_of dir number types_only place info ≡ None
    by None = refl
    by (Some info) = ap (given_if types_only info.name) nothing

-- what is told of an attribute that is given
abbrev pub told_if : {A : Type 0} → Directory → Token → ℕ → SearchValue → (ℕ → List A) → ℕ → List A
told_if dir token number search f place = if is_given_at dir token number search place then f place else []

-- Of the places of an entry all is told that is told of given attributes, if nothing is told of an attribute of which
-- nothing is shown.
pub told_at_places : {A : Type 0} → (dir : Directory) (token : Token) (number : ℕ) (search : SearchValue)
    (f : ℕ → List A) (places : List ℕ) → ((place : ℕ) → shown dir number place ≡ [] → f place ≡ [])
    → HasPlaces dir token number search places
    → flat_map f places ≡ along (told_if dir token number search f) 0 (attrs_of dir.schema)
unfolding is_asked_at
told_at_places {A} dir token number search f places bare has =
    sym (all_given places has.given)
    ∙ gathered told 0 places (attrs_of dir.schema) (rises_from places has.rise) (λ n le not_there. other n not_there)
    (λ n le. past n (omega (arith, le)))
  where
    told : ℕ → List A
    told = told_if dir token number search f

    all_given : (ps : List ℕ) → ((place : ℕ) → is_in place ps ≡ true → is_given_at dir token number search place ≡ true)
        → flat_map told ps ≡ flat_map f ps
    all_given [] given = refl
    all_given (p ∷ ps) given =
        ap (λ (b : Bool). (if b then f p else []) ++ flat_map told ps) (given p (is_first p ps))
        ∙ ap (λ xs. f p ++ xs) (all_given ps (λ place there. given place (is_further place p ps there)))

    by : (place : ℕ) (so : Bool) → is_given_at dir token number search place ≡ so → (so ≡ true → f place ≡ [])
        → told place ≡ []
    by place true is none = ap (λ (b : Bool). if b then f place else []) is ∙ none refl
    by place false is none = ap (λ (b : Bool). if b then f place else []) is

    other : (place : ℕ) → is_in place places ≡ false → told place ≡ []
    other place not_there =
        by place (is_given_at dir token number search place) refl (λ so. bare place (has.others place not_there so))

    past : (place : ℕ) → length (attrs_of dir.schema) ≤ place → told place ≡ []
    past place le =
        ap (λ (found : Option AttrInfo). if is_asked_of search.attrs found && is_readable_at dir token number place
        then f place else []) (slice_get_past (attrs_of dir.schema) place le)

-- what is asked for and may be read at the place of an attribute
pub given_of : (dir : Directory) (token : Token) (number : ℕ) (search : SearchValue) (place : ℕ) (info : AttrInfo)
    → slice_get (attrs_of dir.schema) place ≡ Some info
    → is_given_at dir token number search place ≡ (is_asked search.attrs info.name && is_readable dir token number place
    info)
unfolding is_asked_at is_readable_at
given_of dir token number search place info is =
    ap (λ (found : Option AttrInfo). is_asked_of search.attrs found && is_readable_of dir token number place found) is

one_attr : (dir : Directory) (token : Token) (number : ℕ) (search : SearchValue) (place : ℕ) (info : AttrInfo)
    → slice_get (attrs_of dir.schema) place ≡ Some info
    → told_if dir token number search (λ p. option_to_list (shown_at dir number search.types_only p)) place
    ≡ option_to_list (attr_given search info (read_of dir token number place info))
unfolding shown_at
one_attr dir token number search place info is =
    ap (λ (b : Bool). if b then option_to_list (shown_at dir number search.types_only place) else [])
    (given_of dir token number search place info is)
    ∙ ap (λ (found : Option AttrInfo). if is_asked search.attrs info.name && is_readable dir token number place info
    then option_to_list (shown_of dir number search.types_only place found) else []) is
    ∙ turned (is_asked search.attrs info.name && is_readable dir token number place info)
    (given_if search.types_only info.name (shown dir number place))
    ∙ ap (λ (g : Option Given). option_to_list g)
    (sym (given_by dir token number search place info (is_asked search.attrs info.name)
    (is_readable dir token number place info) refl refl))
  where
    turned : (b : Bool) (g : Option Given) → (if b then option_to_list g else []) ≡ option_to_list
        (if b then g else None)
    turned true g = refl
    turned false g = refl

each_attr : (dir : Directory) (token : Token) (number : ℕ) (search : SearchValue) (place : ℕ) (infos : List AttrInfo)
    → ((i : ℕ) (info : AttrInfo) → slice_get infos i ≡ Some info → slice_get (attrs_of dir.schema) (place + i)
    ≡ Some info)
    → along (told_if dir token number search (λ p. option_to_list (shown_at dir number search.types_only p)))
    place infos ≡ attrs_given search infos (reads_from dir token number place infos)
unfolding along attrs_given reads_from
each_attr dir token number search place [] at = refl
each_attr dir token number search place (info ∷ infos) at =
    let here : place + 0 ≡ place = omega arith in
    ap (λ (gs : List Given). gs ++ along (told_if dir token number search (λ p. option_to_list
    (shown_at dir number search.types_only p))) (suc place) infos)
    (one_attr dir token number search place info (subst (λ (n : ℕ). slice_get (attrs_of dir.schema) n ≡ Some info) here
    (at 0 info refl)))
    ∙ ap (λ (gs : List Given). option_to_list (attr_given search info (read_of dir token number place info)) ++ gs)
    (each_attr dir token number search (suc place) infos
    (λ i other is. subst (λ (n : ℕ). slice_get (attrs_of dir.schema) n ≡ Some other) (further i)
    (at (suc i) other is)))
  where
    further : (i : ℕ) → place + suc i ≡ suc place + i
    further i = omega arith

shown_each : (dir : Directory) (number : ℕ) (types_only : Bool) (places : List ℕ)
    → shown_at_each dir number types_only places ≡ flat_map (λ p. option_to_list (shown_at dir number types_only p))
    places
unfolding shown_at_each
shown_each dir number types_only [] = refl
shown_each dir number types_only (p ∷ ps) =
    ap (λ (gs : List Given). option_to_list (shown_at dir number types_only p) ++ gs)
    (shown_each dir number types_only ps)

-- What the places of an entry show are its attributes.
pub given_at_places : (dir : Directory) (token : Token) (number : ℕ) (search : SearchValue) (places : List ℕ)
    → HasPlaces dir token number search places
    → shown_at_each dir number search.types_only places ≡ attrs_given search (attrs_of dir.schema)
    (reads_from dir token number 0 (attrs_of dir.schema))
given_at_places dir token number search places has =
    shown_each dir number search.types_only places
    ∙ told_at_places dir token number search (λ p. option_to_list (shown_at dir number search.types_only p)) places
    (λ place none. ap (λ (g : Option Given). option_to_list g) (bare_at dir number search.types_only place none)) has
    ∙ each_attr dir token number search 0 (attrs_of dir.schema)
    (λ i info is. subst (λ (n : ℕ). slice_get (attrs_of dir.schema) n ≡ Some info) (from_none i) is)
  where
    from_none : (i : ℕ) → i ≡ 0 + i
    from_none i = omega arith

-- ---- the loops that gather

filter_front : (test : ℕ → Bool) (x : ℕ) (xs : List ℕ) → filter test (x ∷ xs) ≡ place_if (test x) x ++ filter test xs
filter_front test x xs = by (test x)
  where
    by : (so : Bool) → (if so then x ∷ filter test xs else filter test xs) ≡ place_if so x ++ filter test xs
    by true = refl
    by false = refl

-- those so far, and those that are left
pub filter_more : (test : ℕ → Bool) (xs : List ℕ) (i x : ℕ) (before now after : List ℕ) → drop i xs ≡ x
    ∷ drop (i + 1) xs
    → now ++ filter test (drop i xs) ≡ before ++ filter test xs → after ≡ now ++ place_if (test x) x
    → after ++ filter test (drop (i + 1) xs) ≡ before ++ filter test xs
filter_more test xs i x before now after front so_far new =
    ap (λ (ns : List ℕ). ns ++ filter test (drop (i + 1) xs)) new
    ∙ append_assoc now (place_if (test x) x) (filter test (drop (i + 1) xs))
    ∙ ap (λ (ns : List ℕ). now ++ ns) (sym (ap (filter test) front ∙ filter_front test x (drop (i + 1) xs)))
    ∙ so_far

pub filter_end : (test : ℕ → Bool) (xs : List ℕ) (i : ℕ) (before now : List ℕ) → length xs ≤ i
    → now ++ filter test (drop i xs) ≡ before ++ filter test xs → now ≡ before ++ filter test xs
filter_end test xs i before now le so_far =
    sym (append-nil now) ∙ ap (λ (ns : List ℕ). now ++ filter test ns) (sym (drop_all i xs le)) ∙ so_far

drop_mapped : {A B : Type 0} → (f : A → B) (i : ℕ) (xs : List A) → drop i (map f xs) ≡ map f (drop i xs)
drop_mapped f zero xs = refl
drop_mapped f (suc i) [] = refl
drop_mapped f (suc i) (x ∷ xs) = drop_mapped f i xs

pub mapped_front : {A B : Type 0} → (f : A → B) (i : ℕ) (x : A) (xs : List A) → drop i xs ≡ x ∷ drop (i + 1) xs
    → drop i (map f xs) ≡ f x ∷ drop (i + 1) (map f xs)
mapped_front f i x xs front = drop_mapped f i xs ∙ ap (map f) front
    ∙ ap (λ ys. f x ∷ ys) (sym (drop_mapped f (i + 1) xs))
