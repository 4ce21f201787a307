-- What follows from records that were added one after the other, and could be finished.
use Rattle.std.proofs.Common.{◌≡◌, ℕ, zero, suc, ◌+◌, ◌-◌, ◌^◌, ◌<◌, ◌≤◌, Bool, true, false, ◌&&◌, ltb, List, [], ◌∷◌}
use Rattle.std.proofs.Common.{◌++◌, length, map, refl, sym, ap, subst, ◌∙◌, Option, Some, None, IfSome, Result, Ok}
use Rattle.std.proofs.Common.{Err, unwrap_or, append_assoc, if◌then◌else◌, arith}
use Rattle.std.specs.Prelude.{slice_get, position, codes, is_ok, is_some}
use Rattle.std.specs.List.{list_any}
use Rattle.std.specs.Option.{option_map, option_map_or, option_and_then, option_or, option_to_list}
use Rattle.std.proofs.lemmas.Bool.{and_parts, ltb-true}
use Rattle.std.proofs.lemmas.Bool.Decides.{nat_tests}
use Rattle.std.proofs.lemmas.List.{append-nil, length-append, length-map}
use Rattle.std.proofs.lemmas.Option.{slice_get_within}
use Rattle.std.proofs.lemmas.Slice.Eq.{bytes_eq-Decides}
use Rattle.ad_bytes.specs.Reading.{◌>>=◌, need}
use Rattle.ad_ids.specs.declared.guid.Guid.{Guid}
use Rattle.ad_ids.specs.Guid.{same_guid}
use Rattle.ad_schema_classes.specs.Names.{same_name, place_of}
use Rattle.ad_schema_classes.specs.Chains.{option_at, first_along, chain, ends_within, first_endless, naming_by}
use Rattle.ad_schema_classes.proofs.ChainLemmas.{chain_step}
use Rattle.ad_schema_classes.proofs.HeightLemmas.{endless_low, endless_ends}
use Rattle.ad_schema_classes.proofs.IndexLemmas.{position_here, position_next, same_itself}
use Rattle.ad_schema.specs.declared.line.SchemaKind.{SchemaKind}
use Rattle.ad_schema.specs.declared.line.SchemaKind.TheVariants.{Attribute, Class, Right}
use Rattle.ad_schema.specs.declared.line.Line.{Line}
use Rattle.ad_schema.specs.declared.line.SchemaRecord.{SchemaRecord}
use Rattle.ad_schema.specs.declared.field.Field.TheVariants as field
use Rattle.ad_schema.specs.declared.info.ClassId.{ClassId}
use Rattle.ad_schema.specs.declared.info.ClassInfo.{ClassInfo}
use Rattle.ad_schema.specs.declared.fault.SchemaFault.{SchemaFault}
use Rattle.ad_schema.specs.declared.fault.SchemaFault.TheVariants.{Repeated, Unknown, Loop}
use Rattle.ad_schema.specs.Fields.{text_of, value_of}
use Rattle.ad_schema.specs.Attributes.{lines_of, lines_if, names_of, attrs_of, rights_of, right_info, right_guid}
use Rattle.ad_schema.specs.Classes.{superclass, own_naming, superclasses, own_namings, cn_of, naming_of, chain_of}
use Rattle.ad_schema.specs.Classes.{classes_of}
use Rattle.ad_schema.specs.Records.{none_of, checked, has_name, is_repeated, title_of, repeated, right_guids, added}
use Rattle.ad_schema.specs.Records.{unknown, endless, finished}
use Rattle.ad_schema.specs.Sound.{all_added, AreAdded, MakeSchema, NamesAreDistinct, ChainsEnd, AreFew}
use Rattle.ad_schema.proofs.RecordLemmas.{lines_few}
use Rattle.ad_schema.proofs.BuilderLemmas.{mapped_push}
use Rattle.ad_schema.proofs.SchemaLemmas.{length-names, length-classes}
use Rattle.ad_schema.proofs.LookupLemmas.{length-attrs, place_within, class_above, class_naming}

-- ---- one record more

and_true : (b : Bool) → b && true ≡ b
and_true true = refl
and_true false = refl

and_assoc : (a b c : Bool) → a && (b && c) ≡ (a && b) && c
and_assoc true b c = refl
and_assoc false b c = refl

added_push : (before records : List SchemaRecord) (r : SchemaRecord) → all_added before (records ++ r ∷ [])
    ≡ all_added before records && is_ok (added (before ++ records) r.kind r.lines)
unfolding all_added
added_push before [] r = let same : before ++ [] ≡ before = append-nil before
    in rw same (and_true (is_ok (added before r.kind r.lines)))
added_push before (x ∷ records) r =
    let same : (before ++ x ∷ []) ++ records ≡ before ++ x ∷ records = append_assoc before (x ∷ []) records in
    let rest = added_push (before ++ x ∷ []) records r in
    ap (λ (b : Bool). is_ok (added before x.kind x.lines) && b) (rw same at rest)
    ∙ and_assoc (is_ok (added before x.kind x.lines)) (all_added (before ++ x ∷ []) records)
    (is_ok (added (before ++ x ∷ records) r.kind r.lines))

pub none_added : (records : List SchemaRecord) → records ≡ [] → AreAdded records
unfolding all_added
none_added records none = rw none record { few = omega arith; added = refl }

pub one_added : (records new : List SchemaRecord) (kind : SchemaKind) (lines : List Line) → new ≡ records
    ++ record { kind = kind; lines = lines } ∷ [] → AreAdded records → length records < 2 ^ 32 - 1
    → checked kind lines ≡ Ok tt → none_of Repeated (repeated records kind lines) ≡ Ok tt → AreAdded new
unfolding added
one_added records new kind lines is are few good free =
    let ok : is_ok (added records kind lines) ≡ true = rw (good, free) refl in
    rw is record {
      few = omega (arith, few, length-append records (record { kind = kind; lines = lines } ∷ []));
      added = rw (added_push [] records (record { kind = kind; lines = lines }), are.added, ok) refl;
    }

-- ---- a list without two of one key

abbrev Distinct : {A : Type 0} → (A → A → Bool) → List A → Type 0
Distinct same xs = (i : ℕ) (x : _) → slice_get xs i ≡ Some x → position (λ y. same y x) xs ≡ Some i

position_first : {A : Type 0} (p : A → Bool) (xs ys : List A) (i : ℕ) → position p xs ≡ Some i → position p (xs ++ ys)
    ≡ Some i
position_first p [] ys i is = absurd cc
position_first p (x ∷ xs) ys i is = by_test (λ k e. position_first p xs ys k e) (p x) refl
  where
    behind : ((k : ℕ) → position p xs ≡ Some k → position p (xs ++ ys) ≡ Some k) → (found : Option ℕ) → position p xs
        ≡ found → option_map (λ k. suc k) found ≡ Some i → option_map (λ k. suc k) (position p (xs ++ ys)) ≡ Some i
    behind more None e whole = absurd cc
    behind more (Some k) e whole = ap (option_map (λ k. suc k)) (more k e) ∙ whole

    by_test : ((k : ℕ) → position p xs ≡ Some k → position p (xs ++ ys) ≡ Some k) → (test : Bool) → p x ≡ test
        → position p (x ∷ (xs ++ ys)) ≡ Some i
    by_test more true here = position_here p x (xs ++ ys) here ∙ sym (position_here p x xs here) ∙ is
    by_test more false here = position_next p x (xs ++ ys) here ∙ behind more (position p xs) refl
        (sym (position_next p x xs here) ∙ is)

not_none : {X : Type 0} {x : X} → Some x ≡ None → ⊥
not_none e = cc

position_last : {A : Type 0} (p : A → Bool) (xs : List A) (y : A) → position p xs ≡ None → p y ≡ true
    → position p (xs ++ y ∷ []) ≡ Some (length xs)
position_last p [] y none is = position_here p y [] is
position_last p (x ∷ xs) y none is = by_test (λ e. position_last p xs y e is) (p x) refl
  where
    behind : (position p xs ≡ None → position p (xs ++ y ∷ []) ≡ Some (length xs)) → (found : Option ℕ)
        → position p xs ≡ found → option_map (λ k. suc k) found ≡ None → option_map (λ k. suc k)
        (position p (xs ++ y ∷ [])) ≡ Some (suc (length xs))
    behind more None e whole = ap (option_map (λ k. suc k)) (more e)
    behind more (Some k) e whole = absurd cc

    by_test : (position p xs ≡ None → position p (xs ++ y ∷ []) ≡ Some (length xs)) → (test : Bool) → p x ≡ test
        → position p (x ∷ (xs ++ y ∷ [])) ≡ Some (suc (length xs))
    by_test more true here = absurd (not_none (sym (position_here p x xs here) ∙ none))
    by_test more false here = position_next p x (xs ++ y ∷ []) here ∙ behind more (position p xs) refl
        (sym (position_next p x xs here) ∙ none)

get_first : {A : Type 0} (xs ys : List A) (i : ℕ) → i < length xs → slice_get (xs ++ ys) i ≡ slice_get xs i
get_first [] ys i lt = absurd (omega (arith, lt))
get_first (x ∷ xs) ys zero lt = refl
get_first (x ∷ xs) ys (suc i) lt = get_first xs ys i (omega (arith, lt))

get_last : {A : Type 0} (xs : List A) (y : A) → slice_get (xs ++ y ∷ []) (length xs) ≡ Some y
get_last [] y = refl
get_last (x ∷ xs) y = get_last xs y

some_one : {X : Type 0} (a b : X) → Some a ≡ Some b → a ≡ b
some_one a b e = ap (λ (o : Option _). unwrap_or o a) e

distinct_push : {A : Type 0} (same : A → A → Bool) (xs : List A) (y : A) → same y y ≡ true → position (λ z. same z y)
    xs ≡ None → Distinct same xs → Distinct same (xs ++ y ∷ [])
distinct_push {A = A} same xs y itself none distinct i x is = by_test (ltb i (length xs)) refl
  where
    by_test : (test : Bool) → ltb i (length xs) ≡ test → position (λ z. same z x) (xs ++ y ∷ []) ≡ Some i
    by_test true low =
        let lt = ltb-true i (length xs) low in
        position_first (λ z. same z x) xs (y ∷ []) i (distinct i x (sym (get_first xs (y ∷ []) i lt) ∙ is))
    by_test false high =
        let lt = slice_get_within (xs ++ y ∷ []) i x is in
        let long : length (xs ++ y ∷ []) ≡ length xs + length (y ∷ []) = length-append xs (y ∷ []) in
        let last : length xs ≡ i = grind (arith, nat_tests) in
        let here : y ≡ x = some_one y x (sym (get_last xs y) ∙ subst (λ (k : ℕ). slice_get (xs ++ y ∷ []) k ≡ Some x)
        (sym last) is) in
        subst (λ (z : A). position (λ w. same w z) (xs ++ y ∷ []) ≡ Some i) here
        (subst (λ (k : ℕ). position (λ w. same w y) (xs ++ y ∷ []) ≡ Some k) last
        (position_last (λ w. same w y) xs y none itself))

-- ---- the keys of the records of a kind

keys : {A : Type 0} → (List Line → A) → SchemaKind → List SchemaRecord → List A
keys f kind records = map f (lines_of kind records)

key_step : {A : Type 0} (same : A → A → Bool) (f : List Line → A) (kind : SchemaKind) (records : List SchemaRecord)
    (r : SchemaRecord) (more : Option (List Line)) → ((x : A) → same x x ≡ true) → lines_if kind r ≡ more
    → ((lines : List Line) → lines_if kind r ≡ Some lines → position (λ y. same y (f lines)) (keys f kind records)
    ≡ None) → Distinct same (keys f kind records) → Distinct same (keys f kind (records ++ r ∷ []))
unfolding keys
key_step {A = A} same f kind records r None itself is free distinct =
    let e : map f (lines_of kind (records ++ r ∷ [])) ≡ map f (lines_of kind records) = mapped_push f kind records r
    None is ∙ append-nil _ in
    subst (λ (l : List A). Distinct same l) (sym e) distinct
key_step {A = A} same f kind records r (Some lines) itself is free distinct =
    let e : map f (lines_of kind (records ++ r ∷ [])) ≡ map f (lines_of kind records) ++ f lines ∷ []
    = mapped_push f kind records r (Some lines) is in
    subst (λ (l : List A). Distinct same l) (sym e)
    (distinct_push same (map f (lines_of kind records)) (f lines) (itself (f lines)) (free lines is) distinct)

all_keys : {A : Type 0} (same : A → A → Bool) (f : List Line → A) (kind : SchemaKind)
    (before records : List SchemaRecord) → ((x : A) → same x x ≡ true)
    → ((all : List SchemaRecord) (r : SchemaRecord) (lines : List Line) → is_ok (added all r.kind r.lines) ≡ true
    → lines_if kind r ≡ Some lines → position (λ y. same y (f lines)) (keys f kind all) ≡ None)
    → all_added before records ≡ true → Distinct same (keys f kind before)
    → Distinct same (keys f kind (before ++ records))
unfolding all_added
all_keys same f kind before [] itself free ok distinct = let e : before ++ [] ≡ before = append-nil before
    in rw e distinct
all_keys {A = A} same f kind before (r ∷ records) itself free ok distinct =
    let parts = and_parts (is_ok (added before r.kind r.lines)) (all_added (before ++ r ∷ []) records) ok in
    let e : (before ++ r ∷ []) ++ records ≡ before ++ r ∷ records = append_assoc before (r ∷ []) records in
    subst (λ (l : List SchemaRecord). Distinct same (keys f kind l)) e
    (all_keys same f kind (before ++ r ∷ []) records itself free parts.1
    (key_step same f kind before r (lines_if kind r) itself refl (λ lines is. free before r lines parts.0 is)
    distinct))

-- ---- what an added record doesn't repeat

no_repeat : (first : Result (Unit {0}) SchemaFault) (test : Bool) (name : List ℕ) (all : List SchemaRecord)
    → is_ok (first >>= (λ _. none_of Repeated (if test then Some name else None) >>= (λ _. Ok all))) ≡ true → test
    ≡ false
no_repeat (Err e) test name all ok = absurd cc
no_repeat (Ok x) true name all ok = absurd cc
no_repeat (Ok x) false name all ok = refl

not_repeated : (records : List SchemaRecord) (kind : SchemaKind) (lines : List Line)
    → is_ok (added records kind lines) ≡ true → is_repeated records kind lines ≡ false
unfolding added repeated
not_repeated records kind lines ok = no_repeat (checked kind lines) (is_repeated records kind lines)
    (title_of kind lines) (records ++ record { kind = kind; lines = lines } ∷ []) ok

none_is : {A : Type 0} (o : Option A) → is_some o ≡ false → o ≡ None
none_is None e = refl
none_is (Some x) e = absurd cc

free_attr : (records : List SchemaRecord) (kind : SchemaKind) (own lines : List Line) → is_ok (added records kind own)
    ≡ true → lines_if Attribute (record { kind = kind; lines = own }) ≡ Some lines
    → position (λ y. same_name y (text_of field.DisplayName lines))
    (keys (text_of field.DisplayName) Attribute records) ≡ None
unfolding lines_if is_repeated has_name place_of names_of keys
free_attr records Attribute own lines ok is =
    let e : own ≡ lines = some_one own lines is in
    none_is _ (subst (λ (ls : List Line). is_some
    (position (λ y. same_name y (text_of field.DisplayName ls))
    (map (text_of field.DisplayName) (lines_of Attribute records))) ≡ false) e
    (not_repeated records Attribute own ok))
free_attr records Class own lines ok is = absurd cc
free_attr records Right own lines ok is = absurd cc

free_class : (records : List SchemaRecord) (kind : SchemaKind) (own lines : List Line)
    → is_ok (added records kind own) ≡ true → lines_if Class (record { kind = kind; lines = own }) ≡ Some lines
    → position (λ y. same_name y (text_of field.DisplayName lines)) (keys (text_of field.DisplayName) Class records)
    ≡ None
unfolding lines_if is_repeated has_name place_of names_of keys
free_class records Class own lines ok is =
    let e : own ≡ lines = some_one own lines is in
    none_is _ (subst (λ (ls : List Line). is_some
    (position (λ y. same_name y (text_of field.DisplayName ls))
    (map (text_of field.DisplayName) (lines_of Class records))) ≡ false) e (not_repeated records Class own ok))
free_class records Attribute own lines ok is = absurd cc
free_class records Right own lines ok is = absurd cc

any_none : {A : Type 0} (p : A → Bool) (xs : List A) → list_any p xs ≡ false → position p xs ≡ None
any_none p [] none = refl
any_none p (x ∷ xs) none = by_test (any_none p xs) (p x) refl
  where
    by_test : (list_any p xs ≡ false → position p xs ≡ None) → (test : Bool) → p x ≡ test → position p (x ∷ xs) ≡ None
    by_test more true is = let no : true ≡ false = rw is at none in absurd cc
    by_test more false is = position_next p x xs is ∙ ap (option_map (λ k. suc k)) (more (rw is at none))

free_right : (records : List SchemaRecord) (kind : SchemaKind) (own lines : List Line)
    → is_ok (added records kind own) ≡ true → lines_if Right (record { kind = kind; lines = own }) ≡ Some lines
    → position (λ y. same_guid y (right_guid lines)) (keys right_guid Right records) ≡ None
unfolding lines_if is_repeated right_guids keys
free_right records Right own lines ok is =
    let e : own ≡ lines = some_one own lines is in
    any_none (λ y. same_guid y (right_guid lines)) _
    (subst (λ (ls : List Line). list_any (λ guid. same_guid guid (right_guid ls))
    (map right_guid (lines_of Right records)) ≡ false) e (not_repeated records Right own ok))
free_right records Attribute own lines ok is = absurd cc
free_right records Class own lines ok is = absurd cc

same_guid_itself : (guid : Guid) → same_guid guid guid ≡ true
same_guid_itself guid = (bytes_eq-Decides guid.bytes guid.bytes).1 refl

no_keys : {A : Type 0} (same : A → A → Bool) (f : List Line → A) (kind : SchemaKind) → Distinct same (keys f kind [])
unfolding keys lines_of
no_keys same f kind i x is = absurd cc

pub names_distinct : (records : List SchemaRecord) → AreAdded records → NamesAreDistinct records
unfolding names_of right_guids place_of keys
names_distinct records are = record {
  attrs = all_keys same_name (text_of field.DisplayName) Attribute [] records same_itself
      (λ all r lines ok is. free_attr all r.kind r.lines lines ok is) are.added
      (no_keys same_name (text_of field.DisplayName) Attribute);
  classes = all_keys same_name (text_of field.DisplayName) Class [] records same_itself
      (λ all r lines ok is. free_class all r.kind r.lines lines ok is) are.added
      (no_keys same_name (text_of field.DisplayName) Class);
  rights = all_keys same_guid right_guid Right [] records same_guid_itself
      (λ all r lines ok is. free_right all r.kind r.lines lines ok is) are.added (no_keys same_guid right_guid Right);
}

-- ---- records that could be finished

record Parts (missing : Option (List ℕ)) (has : Bool) (never : Option (List ℕ)) : Type 0 where
  known : missing ≡ None
  cn : has ≡ true
  ends : never ≡ None

parts : (missing : Option (List ℕ)) (has : Bool) (never : Option (List ℕ)) (all : List SchemaRecord)
    → is_ok (none_of Unknown missing >>= (λ _. need has (Unknown (codes "cn"))
    >>= (λ _. none_of Loop never >>= (λ _. Ok all)))) ≡ true → Parts missing has never
parts (Some x) has never all ok = absurd cc
parts None false never all ok = absurd cc
parts None true (Some x) all ok = absurd cc
parts None true None all ok = record { known = refl; cn = refl; ends = refl }

finished_parts : (records : List SchemaRecord) → is_ok (finished records) ≡ true → Parts (unknown records)
    (is_some (place_of (names_of Attribute records) (codes "cn"))) (endless records)
unfolding finished
finished_parts records ok = parts (unknown records) (is_some (place_of (names_of Attribute records) (codes "cn")))
    (endless records) records ok

record From {A : Type 0} (f : A → Option ℕ) (x : ℕ) : Type 0 where
  source : A
  gives : f source ≡ Some x

option_from : {A : Type 0} (f : A → Option ℕ) (xs : List A) (place x : ℕ) → option_at (map f xs) place ≡ Some x
    → From f x
unfolding option_at
option_from f [] place x is = absurd cc
option_from f (y ∷ ys) zero x is = record { source = y; gives = is }
option_from f (y ∷ ys) (suc place) x is = option_from f ys place x is

above_low : (classes : List (List ℕ)) (lines : List Line) (x : ℕ) → superclass classes lines ≡ Some x → x
    < length classes
unfolding superclass
above_low classes lines x is = by_test (same_name (text_of field.SubClassOf lines) (text_of field.DisplayName lines)) is
  where
    by_test : (test : Bool) → (if test then None else place_of classes (text_of field.SubClassOf lines)) ≡ Some x → x
        < length classes
    by_test true e = absurd cc
    by_test false e = place_within classes (text_of field.SubClassOf lines) x e

own_low : (attrs : List (List ℕ)) (lines : List Line) (x : ℕ) → own_naming attrs lines ≡ Some x → x < length attrs
unfolding own_naming
own_low attrs lines x is = by_value (value_of field.NamingAttribute lines) is
  where
    by_value : (value : Option (List ℕ)) → option_and_then (place_of attrs) value ≡ Some x → x < length attrs
    by_value None e = absurd cc
    by_value (Some name) e = place_within attrs name x e

along_low : (options : List (Option ℕ)) (most : ℕ) (classes : List ℕ) (x : ℕ)
    → ((class y : ℕ) → option_at options class ≡ Some y → y < most) → first_along options classes ≡ Some x → x < most
unfolding first_along
along_low options most [] x low is = absurd cc
along_low options most (class ∷ classes) x low is = by_own (along_low options most classes x low)
    (option_at options class) refl is
  where
    by_own : (first_along options classes ≡ Some x → x < most) → (own : Option ℕ) → option_at options class ≡ own
        → option_or own (first_along options classes) ≡ Some x → x < most
    by_own more None own e = more e
    by_own more (Some y) own e = low class x (own ∙ e)

cn_low : (attrs : List (List ℕ)) → is_some (place_of attrs (codes "cn")) ≡ true → cn_of attrs < length attrs
unfolding cn_of
cn_low attrs has = by_place (place_of attrs (codes "cn")) refl has
  where
    by_place : (place : Option ℕ) → place_of attrs (codes "cn") ≡ place → is_some place ≡ true → unwrap_or place 0
        < length attrs
    by_place None is e = absurd cc
    by_place (Some n) is e = place_within attrs (codes "cn") n is

naming_low : (records : List SchemaRecord) (class : ℕ) → is_some (place_of (names_of Attribute records) (codes "cn"))
    ≡ true → naming_of records class < length (attrs_of records)
unfolding naming_of naming_by own_namings
naming_low records class has =
    let long : length (names_of Attribute records) ≡ length (attrs_of records) = length-names Attribute records
    ∙ sym (length-attrs records) in
    subst (λ (n : ℕ). unwrap_or (first_along own (chain (superclasses records) class)) (cn_of attrs) < n) long
    (by_first (first_along own (chain (superclasses records) class)) refl)
  where
    attrs : List (List ℕ)
    attrs = names_of Attribute records

    own : List (Option ℕ)
    own = map (own_naming attrs) (lines_of Class records)

    by_first : (first : Option ℕ) → first_along own (chain (superclasses records) class) ≡ first
        → unwrap_or first (cn_of attrs) < length attrs
    by_first None is = cn_low attrs has
    by_first (Some x) is = along_low own (length attrs) (chain (superclasses records) class) x
        (λ k y e. let from = option_from (own_naming attrs) (lines_of Class records) k y e
        in own_low attrs from.source y from.gives) is

length-superclasses : (records : List SchemaRecord) → length (superclasses records) ≡ length (classes_of records)
unfolding superclasses
length-superclasses records = length-map (lines_of Class records) (superclass (names_of Class records))
    ∙ sym (length-classes records)

past_end : {A : Type 0} (xs : List A) (n : ℕ) → slice_get xs n ≡ None → n < length xs → ⊥
past_end [] n none lt = omega (arith, lt)
past_end (x ∷ xs) zero none lt = cc
past_end (x ∷ xs) (suc n) none lt = past_end xs n none (omega (arith, lt))

none_endless : (records : List SchemaRecord) → endless records ≡ None → first_endless (superclasses records) ≡ None
unfolding endless first_endless
none_endless records none = by_found (first_endless (superclasses records)) refl none
  where
    by_found : (found : Option ℕ) → first_endless (superclasses records) ≡ found
        → option_and_then (slice_get (names_of Class records)) found ≡ None → found ≡ None
    by_found None is e = refl
    by_found (Some k) is e =
        let low : k < 0 + length (superclasses records) = endless_low (superclasses records) 0
        (length (superclasses records)) k is in
        absurd (past_end (names_of Class records) k e
        (omega (arith, low, length-superclasses records, length-classes records, length-names Class records)))

ends_all : (records : List SchemaRecord) (class : ℕ) → endless records ≡ None → class < length (classes_of records)
    → ends_within (superclasses records) (length (superclasses records)) class ≡ true
unfolding first_endless
ends_all records class none lt =
    endless_ends (superclasses records) 0 (length (superclasses records)) class (none_endless records none)
    (omega arith) (omega (arith, lt, length-superclasses records))

pub chains_end : (records : List SchemaRecord) → MakeSchema records → ChainsEnd records
unfolding chain_of superclasses
chains_end records make =
    let done = finished_parts records make.finished in
    record {
      above = λ class superior is.
          let from = option_from (superclass (names_of Class records)) (lines_of Class records) class superior is in
          let low = above_low (names_of Class records) from.source superior from.gives in
          omega (arith, low, length-names Class records, length-classes records);
      naming = λ class. naming_low records class done.cn;
      ends = λ class lt. subst (λ (n : ℕ). ends_within (superclasses records) n class ≡ true)
          (length-superclasses records) (ends_all records class done.ends lt);
      step = λ class lt. chain_step (superclasses records) class (omega (arith, lt, length-superclasses records))
          (ends_all records class done.ends lt);
    }

pub are_few : (records : List SchemaRecord) → AreAdded records → AreFew records
unfolding rights_of
are_few records are = record {
  attrs = omega (arith, are.few, lines_few Attribute records, length-attrs records);
  classes = omega (arith, are.few, lines_few Class records, length-classes records);
  rights = omega (arith, are.few, lines_few Right records, length-map (lines_of Right records) right_info);
}

-- ---- what a class tells is of the schema

abbrev id_of : ℕ → ClassId
id_of k = record { 0 = k }

pub above_within : (records : List SchemaRecord) (class : ℕ) (info : ClassInfo) → MakeSchema records
    → slice_get (classes_of records) class ≡ Some info
    → IfSome info.above (λ above. above.0 < length (classes_of records))
above_within records class info make is =
    subst (λ (above : Option ClassId). IfSome above (λ a. a.0 < length (classes_of records)))
    (sym (class_above records class info is)) (by_above (option_at (superclasses records) class) refl)
  where
    by_above : (above : Option ℕ) → option_at (superclasses records) class ≡ above
        → IfSome (option_map (λ k. id_of k) above) (λ a. a.0 < length (classes_of records))
    by_above None none = tt
    by_above (Some k) some = (chains_end records make).above class k some

pub naming_within : (records : List SchemaRecord) (class : ℕ) (info : ClassInfo) → MakeSchema records
    → slice_get (classes_of records) class ≡ Some info → info.naming.0 < length (attrs_of records)
naming_within records class info make is = subst (λ (n : ℕ). n < length (attrs_of records))
    (sym (class_naming records class info is)) ((chains_end records make).naming class)
