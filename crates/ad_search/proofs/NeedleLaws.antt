-- What an object has to store for a filter to be true of it.
use Rattle.std.proofs.Common.{◌≡◌, ℕ, zero, suc, ◌+◌, ◌<◌, ◌≤◌, Bool, true, false, ◌&&◌, ◌||◌, List, [], ◌∷◌, ◌++◌}
use Rattle.std.proofs.Common.{map, length, get_or, drop, Option, Some, None, Result, Ok, Err, IfOk, refl, sym, subst}
use Rattle.std.proofs.Common.{ap, ◌∙◌, append_assoc, arith}
use Rattle.std.specs.Prelude.{slice_get, if◌then◌else◌, option_and_then, unwrap_or, IfSome}
use Rattle.std.specs.List.{AllByRecursion, list_any}
use Rattle.std.proofs.lemmas.Option.{none-some, same_Some}
use Rattle.std.specs.Result.{result_ok}
use Rattle.ad_value.specs.declared.fault.ValueFault.{ValueFault}
use Rattle.std.proofs.lemmas.List.{append-nil, drop_all}
use Rattle.ad_ids.specs.declared.token.Token.{Token}
use Rattle.ad_value.specs.declared.syntax.Syntax.{Syntax}
use Rattle.ad_value.specs.declared.value.Key.{Key}
use Rattle.ad_value.specs.Value.{Value, same_key}
use Rattle.ad_value.specs.ValueOf.{normal_or_fault}
use Rattle.ad_schema.specs.declared.line.SchemaRecord.{SchemaRecord}
use Rattle.ad_schema.specs.declared.info.AttrId.{AttrId}
use Rattle.ad_schema.specs.declared.info.AttrInfo.{AttrInfo}
use Rattle.ad_schema.specs.Attributes.{attrs_of, attr_named}
use Rattle.ad_schema.specs.Meaning.{attr_is_back_link}
use Rattle.ad_ldap.specs.FilterValue.{FilterValue, filters_of}
use Rattle.ad_ldap.specs.FilterValue as filter
use Rattle.ad_ldap.specs.MessageValue.{SearchValue}
use Rattle.ad_filter.specs.ThreeValues.{is_true, both, truth_of}
use Rattle.ad_filter.specs.declared.outcome.Truth.{Truth}
use Rattle.ad_filter.specs.declared.outcome.Truth.TheVariants as truth'
use Rattle.ad_filter.specs.Filtering.{View, Readable, truth, all_of, known, is_descriptor, is_compared, says_equal}
use Rattle.ad_filter.specs.Filtering.{of_known, of_sent, some_value}
use Rattle.ad_dir_model.specs.Object.{Object, Stored, plain, link, stored_in}
use Rattle.ad_dir_model.specs.Objects.{object_at}
use Rattle.ad_dir_model.specs.Attributes.{syntax_at}
use Rattle.ad_dir_model.specs.Shown.{shown, is_naming, shown_value}
use Rattle.ad_dir_model.specs.Directory.{Directory}
use Rattle.ad_access_dir.specs.Sight.{is_visible}
use Rattle.ad_search.specs.declared.needles.Needle.{Needle}
use Rattle.ad_entries.specs.Seen.{Seen, seen_of, reads, reads_from, readable_of, readable_at, values_at, is_readable}
use Rattle.ad_entries.specs.Seen.{read_of}
use Rattle.ad_search.specs.Search.{is_found}
use Rattle.ad_search.specs.Reads.{found_among}
use Rattle.ad_dir.specs.Values.{may_have}
use Rattle.ad_search.specs.Needles.{has_key, IsPlain, IsNeedle, IsAskedAs, HaveSameEntries}
use Rattle.ad_entries.specs.Places.{place_if}
use Rattle.ad_entries.proofs.ReadLaws.{read_at, is_read, not_readable}
use Rattle.ad_search.proofs.AmongLaws.{found_later, found_apart}

-- ---- of an equality

pub no_truth : false ≡ true → ⊥
no_truth e = cc

-- some value that is read has the key
has_one : (syntax : Syntax) (key : Key) (values : List Value)
    → list_any (λ (v : Value). is_compared syntax v && same_key v.key key) values ≡ true → has_key key values ≡ true
has_one syntax key [] is = is
has_one syntax key (v ∷ values) is = by (is_compared syntax v) (same_key v.key key) (has_one syntax key values) is
  where
    by : (compared same : Bool) → (list_any (λ (v : Value). is_compared syntax v && same_key v.key key) values ≡ true
        → has_key key values ≡ true)
        → (compared && same) || list_any (λ (v : Value). is_compared syntax v && same_key v.key key) values ≡ true
        → same || has_key key values ≡ true
    by true true others is = refl
    by true false others is = others is
    by false true others is = refl
    by false false others is = others is

truth_is : (b : Bool) → is_true (truth_of b) ≡ true → b ≡ true
truth_is true is = refl
truth_is false is = absurd (no_truth is)

equal_says : (syntax : Syntax) (sent : List ℕ) (value : Value) (values : List Value) → normal_or_fault syntax sent
    ≡ Ok value
    → is_true (says_equal sent (record { syntax = syntax; values = values })) ≡ true → has_key value.key values ≡ true
equal_says syntax sent value values reads is =
    let by : is_true (of_sent (Ok value) (λ (key : Key). some_value (record { syntax = syntax; values = values })
    (λ (own : Key). same_key own key))) ≡ true =
    sym (ap (λ (r : _). is_true (of_sent r (λ (key : Key). some_value (record { syntax = syntax; values = values })
    (λ (own : Key). same_key own key)))) reads) ∙ is in
    has_one syntax value.key values (truth_is _ by)

-- what is known of the attribute is what is seen of it
pub known_at : (schema : List SchemaRecord) (seen : Seen) (name : List ℕ) (attr : AttrId) (info : AttrInfo)
    → is_descriptor name ≡ false → attr_named schema name ≡ Some attr
    → slice_get (attrs_of schema) attr.0 ≡ Some info → known (reads schema seen) name
    ≡ readable_at info (values_at seen attr.0)
unfolding known reads
known_at schema seen name attr info ordinary named at =
    ap (λ (b : Bool). if b then None else reads schema seen name) ordinary
    ∙ ap (option_and_then (readable_of schema seen)) named
    ∙ ap (option_and_then (λ (i : AttrInfo). readable_at i (values_at seen attr.0))) at

needed_by : (info : AttrInfo) (sent : List ℕ) (needle : Needle) (values : Option (List Value))
    → normal_or_fault info.syntax sent ≡ Ok needle.value
    → is_true (of_known (readable_at info values) (says_equal sent)) ≡ true
    → (vs : List Value) × (values ≡ Some vs) × (has_key needle.value.key vs ≡ true)
needed_by info sent needle None reads is = absurd (no_truth is)
needed_by info sent needle (Some vs) reads is = (vs, refl, equal_says info.syntax sent needle.value vs reads is)

pub equal_needs : (schema : List SchemaRecord) (name sent : List ℕ) (attr : AttrId) (needle : Needle)
    → is_descriptor name ≡ false → attr_named schema name ≡ Some attr
    → IsAskedAs schema attr sent needle → IsNeedle schema (filter.Equal name sent) needle
unfolding truth
equal_needs schema name sent attr needle ordinary named asked = record {
  needed = λ seen is.
      needed_by asked.info sent needle (values_at seen needle.attr.0) asked.value_is
      (sym (ap (λ (r : Option Readable). is_true (of_known r (says_equal sent)))
      (known_at schema seen name attr asked.info ordinary named asked.known
      ∙ ap (λ (id : AttrId). readable_at asked.info (values_at seen id.0)) (sym asked.attr_is))) ∙ is);
  plain = subst (λ (id : AttrId). IsPlain schema id.0) (sym asked.attr_is) asked.plain;
}

pub found_ok : (r : Result Value ValueFault) (v : Value) → result_ok r ≡ Some v → r ≡ Ok v
found_ok (Ok w) v is = ap Ok (same_Some w v is)
found_ok (Err fault) v is = absurd (none-some v is)

pub lifted : {A E : Type 0} → (r : Result (Option A) E) (P Q : A → Type 0) → ((x : A) → P x → Q x)
    → IfOk r (λ o. IfSome o P) → IfOk r (λ o. IfSome o Q)
lifted (Ok None) P Q gives is = tt
lifted (Ok (Some x)) P Q gives is = gives x is
lifted (Err e) P Q gives is = tt

-- ---- of an And

both_left : (a b : Truth) → is_true (both a b) ≡ true → is_true a ≡ true
both_left truth'.True b is = refl
both_left truth'.False b is = is
both_left truth'.Undefined truth'.True is = is
both_left truth'.Undefined truth'.False is = is
both_left truth'.Undefined truth'.Undefined is = is

both_right : (a b : Truth) → is_true (both a b) ≡ true → is_true b ≡ true
both_right truth'.True b is = is
both_right truth'.False b is = absurd (no_truth is)
both_right truth'.Undefined truth'.True is = refl
both_right truth'.Undefined truth'.False is = is
both_right truth'.Undefined truth'.Undefined is = is

pub all_say : (view : View) (fs : List FilterValue) (i : ℕ) (f : FilterValue) → i < length fs → f ≡ get_or fs i f
    → is_true (all_of view (filters_of fs)) ≡ true → is_true (truth view f) ≡ true
unfolding all_of truth
all_say view [] i f lt is all = absurd (omega (arith, lt))
all_say view (g ∷ fs) zero f lt is all = rw is (both_left (truth view g) (all_of view (filters_of fs)) all)
all_say view (g ∷ fs) (suc i) f lt is all = all_say view fs i f (omega (arith, lt)) is
    (both_right (truth view g) (all_of view (filters_of fs)) all)

pub if_some : {A : Type 0} (o : Option A) (P Q : A → Type 0) → ((x : A) → P x → Q x) → IfSome o P → IfSome o Q
if_some None P Q gives is = tt
if_some (Some x) P Q gives is = gives x is

-- ---- of an object

none_shown : (dir : Directory) (syntax : Syntax) (key : Key) (stored : List Stored) → list_any (may_have key) stored
    ≡ false → has_key key (map (shown_value dir syntax) stored) ≡ false
none_shown dir syntax key [] none = refl
none_shown dir syntax key (plain v ∷ stored) none = by (same_key v.key key) (none_shown dir syntax key stored) none
  where
    by : (same : Bool) → (list_any (may_have key) stored ≡ false → has_key key (map (shown_value dir syntax) stored)
        ≡ false)
        → same || list_any (may_have key) stored ≡ false → same || has_key key (map (shown_value dir syntax) stored)
        ≡ false
    by true others none = absurd (no_truth (sym none))
    by false others none = others none
none_shown dir syntax key (link number ∷ stored) none = absurd (no_truth (sym none))

by_back : (dir : Directory) (attr : ℕ) (key : Key) (back : Bool) (o : Object) → list_any (may_have key)
    (stored_in o.values attr) ≡ false
    → has_key key (if back then [] else map (shown_value dir (syntax_at dir.schema attr)) (stored_in o.values attr))
    ≡ false
by_back dir attr key true o none = refl
by_back dir attr key false o none = none_shown dir (syntax_at dir.schema attr) key (stored_in o.values attr) none

pub shows_no_key : (dir : Directory) (number attr : ℕ) (key : Key) (o : Object) → object_at dir.objects number ≡ o
    → IsPlain dir.schema attr → is_naming dir.schema o.class attr ≡ false → list_any (may_have key)
    (stored_in o.values attr) ≡ false
    → has_key key (shown dir number attr) ≡ false
unfolding shown
shows_no_key dir number attr key o is ordinary naming none =
    let naming_there : is_naming dir.schema (object_at dir.objects number).class attr ≡ false
    = subst (λ (x : Object). is_naming dir.schema x.class attr ≡ false) (sym is) naming in
    let none_there : list_any (may_have key) (stored_in (object_at dir.objects number).values attr) ≡ false
    = subst (λ (x : Object). list_any (may_have key) (stored_in x.values attr) ≡ false) (sym is) none in
    rw ordinary.no_class (rw ordinary.no_dn
    (rw naming_there (by_back dir attr key (attr_is_back_link dir.schema attr) (object_at dir.objects number)
    none_there)))

nothing_by_back : (dir : Directory) (attr : ℕ) (back : Bool) (o : Object) → stored_in o.values attr ≡ []
    → (if back then [] else map (shown_value dir (syntax_at dir.schema attr)) (stored_in o.values attr)) ≡ []
nothing_by_back dir attr true o none = refl
nothing_by_back dir attr false o none = ap (map (shown_value dir (syntax_at dir.schema attr))) none

pub shows_nothing : (dir : Directory) (number attr : ℕ) (o : Object) → object_at dir.objects number ≡ o
    → IsPlain dir.schema attr → is_naming dir.schema o.class attr ≡ false → stored_in o.values attr ≡ []
    → shown dir number attr ≡ []
unfolding shown
shows_nothing dir number attr o is ordinary naming none =
    let naming_there : is_naming dir.schema (object_at dir.objects number).class attr ≡ false
    = subst (λ (x : Object). is_naming dir.schema x.class attr ≡ false) (sym is) naming in
    let none_there : stored_in (object_at dir.objects number).values attr ≡ []
    = subst (λ (x : Object). stored_in x.values attr ≡ []) (sym is) none in
    rw ordinary.no_class (rw ordinary.no_dn
    (rw naming_there (nothing_by_back dir attr (attr_is_back_link dir.schema attr) (object_at dir.objects number)
    none_there)))

-- what is read of a plain attribute is what is shown
read_shown : (dir : Directory) (token : Token) (number attr : ℕ) (info : AttrInfo) (values : List Value)
    (readable : Bool) → is_readable dir token number attr info ≡ readable
    → read_of dir token number attr info ≡ Some values → values ≡ shown dir number attr
read_shown dir token number attr info values true may is = same_some (sym is ∙ is_read dir token number attr info may)
  where
    same_some : Some values ≡ Some (shown dir number attr) → values ≡ shown dir number attr
    same_some e = cc
read_shown dir token number attr info values false may is =
    let none : Some values ≡ None = sym is ∙ not_readable dir token number attr info may in absurd cc

none_at : (dir : Directory) (token : Token) (number place : ℕ) (infos : List AttrInfo) (i : ℕ) → slice_get infos i
    ≡ None → slice_get (reads_from dir token number place infos) i ≡ None
unfolding reads_from
none_at dir token number place [] i is = refl
none_at dir token number place (x ∷ xs) zero is = absurd cc
none_at dir token number place (x ∷ xs) (suc i) is = none_at dir token number (suc place) xs i is

pub values_shown : (dir : Directory) (token : Token) (number attr : ℕ) (info : Option AttrInfo) (values : List Value)
    → slice_get (attrs_of dir.schema) attr ≡ info
    → values_at (seen_of dir token number) attr ≡ Some values → values ≡ shown dir number attr
unfolding seen_of
values_shown dir token number attr None values at is =
    let none : None ≡ Some values = sym (ap (λ (found : Option (Option (List Value))). unwrap_or found None)
    (none_at dir token number 0 (attrs_of dir.schema) attr at)) ∙ is in absurd cc
values_shown dir token number attr (Some info) values at is =
    let here : 0 + attr ≡ attr = omega arith in
    read_shown dir token number attr info values (is_readable dir token number attr info) refl
    (subst (λ (n : ℕ). read_of dir token number n info ≡ Some values) here
    (sym (ap (λ (found : Option (Option (List Value))). unwrap_or found None)
    (read_at dir token number 0 (attrs_of dir.schema) attr info at)) ∙ is))

pub any_map : {A B : Type 0} (f : A → B) (p : B → Bool) (xs : List A) → list_any (λ (x : A). p (f x)) xs
    ≡ list_any p (map f xs)
any_map f p [] = refl
any_map f p (x ∷ xs) = ap (λ (b : Bool). p (f x) || b) (any_map f p xs)

-- ---- of all objects

pub and_none : (a b c : Bool) → c ≡ false → a && (b && c) ≡ false
and_none true true c none = none
and_none true false c none = refl
and_none false b c none = refl

pub left_out : (dir : Directory) (search : SearchValue) (number : ℕ) (ns : List ℕ)
    → ((token : Token) → is_true (truth (reads dir.schema (seen_of dir token number)) search.filter) ≡ false)
    → HaveSameEntries dir search ns (number ∷ ns)
unfolding is_found
left_out dir search number ns never token base =
    sym (found_later dir token search base number ns (and_none (is_visible dir token number) _ _ (never token)))

-- the same objects in front
pub behind_same : (dir : Directory) (search : SearchValue) (front some all : List ℕ) → HaveSameEntries dir search some
    all → HaveSameEntries dir search (front ++ some) (front ++ all)
behind_same dir search [] some all same token base = same token base
behind_same dir search (n ∷ front) some all same token base =
    found_apart dir token search base n (front ++ some)
    ∙ ap (λ (ns : List ℕ). found_among dir token search base (n ∷ []) ++ ns)
    (behind_same dir search front some all same token base)
    ∙ sym (found_apart dir token search base n (front ++ all))

left_by : (dir : Directory) (search : SearchValue) (left rest : List ℕ) (number : ℕ) (so : Bool)
    → (so ≡ false → (token : Token) → is_true (truth (reads dir.schema (seen_of dir token number)) search.filter)
    ≡ false)
    → HaveSameEntries dir search ((left ++ place_if so number) ++ rest) (left ++ number ∷ rest)
left_by dir search left rest number true never token base =
    ap (found_among dir token search base) (append_assoc left (number ∷ []) rest)
left_by dir search left rest number false never token base =
    ap (λ (ns : List ℕ). found_among dir token search base (ns ++ rest)) (append-nil left)
    ∙ behind_same dir search left rest (number ∷ rest) (left_out dir search number rest (never refl)) token base

pub left_more : (dir : Directory) (search : SearchValue) (left numbers : List ℕ) (i number : ℕ) (so : Bool)
    → drop i numbers ≡ number ∷ drop (i + 1) numbers
    → (so ≡ false → (token : Token) → is_true (truth (reads dir.schema (seen_of dir token number)) search.filter)
    ≡ false)
    → HaveSameEntries dir search (left ++ drop i numbers) numbers
    → HaveSameEntries dir search ((left ++ place_if so number) ++ drop (i + 1) numbers) numbers
left_more dir search left numbers i number so here never same token base =
    left_by dir search left (drop (i + 1) numbers) number so never token base
    ∙ ap (λ (ns : List ℕ). found_among dir token search base (left ++ ns)) (sym here)
    ∙ same token base

pub live_more : (P : ℕ → Type 0) (left : List ℕ) (number : ℕ) (so : Bool) → P number → AllByRecursion P left
    → AllByRecursion P (left ++ place_if so number)
live_more P [] number true is are = (is, tt)
live_more P [] number false is are = tt
live_more P (n ∷ left) number so is are = (are.0, live_more P left number so is are.1)

pub left_ends : (dir : Directory) (search : SearchValue) (left numbers : List ℕ) (i : ℕ) → length numbers ≤ i
    → HaveSameEntries dir search (left ++ drop i numbers) numbers → HaveSameEntries dir search left numbers
left_ends dir search left numbers i le same token base =
    ap (found_among dir token search base)
    (sym (ap (λ (ns : List ℕ). left ++ ns) (drop_all i numbers le) ∙ append-nil left)) ∙ same token base

pub at_of : {A : Type 0} (P : A → Type 0) (xs : List A) (i : ℕ) (x : A) → AllByRecursion P xs → i < length xs → x
    ≡ get_or xs i x → P x
at_of P [] i x are lt is = absurd (omega (arith, lt))
at_of P (y ∷ xs) zero x are lt is = rw is are.0
at_of P (y ∷ xs) (suc i) x are lt is = at_of P xs i x are.1 (omega (arith, lt)) is

pub at_get : {A : Type 0} (P : A → Type 0) (xs : List A) (i : ℕ) (d : A) → AllByRecursion P xs → i < length xs
    → P (get_or xs i d)
at_get P [] i d are lt = absurd (omega (arith, lt))
at_get P (y ∷ xs) zero d are lt = are.0
at_get P (y ∷ xs) (suc i) d are lt = at_get P xs i d are.1 (omega (arith, lt))
