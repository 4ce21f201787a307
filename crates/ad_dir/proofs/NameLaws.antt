-- Names of objects, part by part.
use Rattle.std.proofs.Common.{◌≡◌, ltb, ℕ, zero, suc, ◌+◌, ◌-◌, ◌<◌, ◌≤◌, Bool, true, false, ◌&&◌, List, [], ◌∷◌}
use Rattle.std.proofs.Common.{◌++◌, length, take, drop, map, reverse, get_or, Result, Ok, Err, Option, Some, None}
use Rattle.std.proofs.Common.{refl, sym, subst, ap, ◌∙◌, if◌then◌else◌, arith, inl, inr}
use Rattle.std.specs.Prelude.{is_some, ◌==◌, ◌↔◌, unwrap_or, codes, IfOk}
use Rattle.std.specs.Option.{option_map, option_and_then}
use Rattle.std.specs.List.{AllByRecursion}
use Rattle.std.specs.Char.{to_ascii_lowercase, to_ascii_uppercase}
use Rattle.std.specs.Str.{bytes_eq, str_to_ascii_uppercase}
use Rattle.std.proofs.lemmas.Bool.{cases_Bool, ltb-true, eq-eqb, ne_eqb, and_parts, and_from, both_ways}
use Rattle.std.proofs.lemmas.Bool.Decides.{nat_tests}
use Rattle.std.proofs.lemmas.Str.Ascii.{lowercase_is, uppercase_is, lowercase-uppercase, uppercase-uppercase}
use Rattle.std.proofs.lemmas.Option.{none-some, same_Some}
use Rattle.std.proofs.lemmas.List.{at_drop_more, drop_all, drop_at, append-nil, append_assoc, reverse-append}
use Rattle.std.proofs.lemmas.List.{length-reverse, length-append, length-drop, take-append-drop, get_or-reverse}
use Rattle.std.proofs.lemmas.Slice.Eq.{bytes_eq-Decides}
use Rattle.ad_dn.specs.declared.rdn.Rdn.{Rdn}
use Rattle.ad_dn.specs.Fold.{folded, IsSameRdn}
use Rattle.ad_dn.specs.Text.{rdns_text}
use Rattle.ad_dn.specs.Value.{IsValue}
use Rattle.ad_dir_model.specs.Limits.{max_depth}
use Rattle.ad_dir_model.specs.Object.{Object, no_object}
use Rattle.ad_schema.specs.declared.line.SchemaRecord.{SchemaRecord}
use Rattle.ad_schema.specs.Classes.{classes_of, naming_of}
use Rattle.ad_dir_model.specs.Attributes.{attr_name}
use Rattle.ad_dir_objects.specs.declared.object.Object.{Object as ObjectIn}
use Rattle.ad_dir_objects.specs.Seen.{object_seen}
use Rattle.ad_dir.specs.Standing.{AreStanding}
use Rattle.ad_dir_model.specs.Objects.{object_of, object_at, sd_at, is_live, Rise}
use Rattle.ad_dir_model.specs.Tree.{root}
use Rattle.ad_dir_model.specs.Directory.{Directory}
use Rattle.ad_dir_model.specs.Names.{name_text, directory_service, common_name, rdn_of, rdns_within, rdns_of}
use Rattle.ad_dir_model.specs.Names.{same_folded, same_rdn, begins_with, child_named, number_if_typed, child_of_rdn}
use Rattle.ad_dir_model.specs.Names.{found_below, found_from_end, found}
use Rattle.ad_dir_model.proofs.Finding.{at-of, of-live, found_first}
use Rattle.ad_dir.specs.Kept.{found_from_root}

-- ---- types in either case

upper_lower : (c : ℕ) → to_ascii_uppercase (to_ascii_lowercase c) ≡ to_ascii_uppercase c
upper_lower c =
    let low = lowercase_is c in
    let up = uppercase_is c in
    let up_low = uppercase_is (to_ascii_lowercase c) in
    elim (cases_Bool (ltb c 65)) [
      | inl below ↦ ap to_ascii_uppercase (low.1 (ltb-true c 65 below))
      | inr above ↦ elim (cases_Bool (ltb c 91)) [
        | inl letter ↦
            let from : 65 ≤ c = grind (arith, nat_tests) in
            let to : c < 91 = ltb-true c 91 letter in
            let lower : to_ascii_lowercase c ≡ c + 32 = low.0 (from, omega arith) in
            let back : to_ascii_uppercase (to_ascii_lowercase c) + 32 ≡ to_ascii_lowercase c
            = up_low.0 (omega (arith, lower, from), omega (arith, lower, to)) in
            let same : to_ascii_uppercase c ≡ c = up.1 (omega arith) in
            omega (arith, lower, back, same)
        | inr beyond ↦
            let past : 90 < c = grind (arith, nat_tests) in
            ap to_ascii_uppercase (low.2 past)
      ]
    ]

map_map : (f g : ℕ → ℕ) (xs : List ℕ) → map f (map g xs) ≡ map (λ x. f (g x)) xs
map_map f g [] = refl
map_map f g (x ∷ xs) = ap (λ (l : List ℕ). f (g x) ∷ l) (map_map f g xs)

map_same : (f g : ℕ → ℕ) (xs : List ℕ) → ((x : ℕ) → f x ≡ g x) → map f xs ≡ map g xs
map_same f g [] same = refl
map_same f g (x ∷ xs) same = rw (same x) (ap (λ (l : List ℕ). g x ∷ l) (map_same f g xs same))

upper_by_lower : (xs : List ℕ) → map to_ascii_uppercase (map to_ascii_lowercase xs) ≡ map to_ascii_uppercase xs
upper_by_lower xs = map_map to_ascii_uppercase to_ascii_lowercase xs
    ∙ map_same (λ c. to_ascii_uppercase (to_ascii_lowercase c)) to_ascii_uppercase xs upper_lower

lower_by_upper : (xs : List ℕ) → map to_ascii_lowercase (map to_ascii_uppercase xs) ≡ map to_ascii_lowercase xs
lower_by_upper xs = map_map to_ascii_lowercase to_ascii_uppercase xs
    ∙ map_same (λ c. to_ascii_lowercase (to_ascii_uppercase c)) to_ascii_lowercase xs lowercase-uppercase

upper_upper : (xs : List ℕ) → map to_ascii_uppercase (map to_ascii_uppercase xs) ≡ map to_ascii_uppercase xs
upper_upper xs = map_map to_ascii_uppercase to_ascii_uppercase xs
    ∙ map_same (λ c. to_ascii_uppercase (to_ascii_uppercase c)) to_ascii_uppercase xs uppercase-uppercase

-- types are the same by upper case where they are by lower case
pub same_types : (a b : List ℕ) → map to_ascii_lowercase a ≡ map to_ascii_lowercase b
    → str_to_ascii_uppercase (str_to_ascii_uppercase a) ≡ str_to_ascii_uppercase b
same_types a b same = upper_upper a ∙ sym (upper_by_lower a) ∙ ap (map to_ascii_uppercase) same ∙ upper_by_lower b

pub same_types_back : (a b : List ℕ) → str_to_ascii_uppercase (str_to_ascii_uppercase a) ≡ str_to_ascii_uppercase b
    → map to_ascii_lowercase a ≡ map to_ascii_lowercase b
same_types_back a b same = sym (lower_by_upper a) ∙ sym (lower_by_upper (map to_ascii_uppercase a))
    ∙ ap (map to_ascii_lowercase) same ∙ lower_by_upper b

-- ---- parts and their sameness

pub same_by : (a b : Rdn) → IsSameRdn a b → same_rdn a b ≡ true
same_by a b same =
    and_from (bytes_eq (str_to_ascii_uppercase a.kind) (str_to_ascii_uppercase b.kind)) (same_folded a.value b.value)
    ((bytes_eq-Decides (str_to_ascii_uppercase a.kind) (str_to_ascii_uppercase b.kind)).1 same.kind)
    ((bytes_eq-Decides (folded a.value) (folded b.value)).1 same.value)

pub same_from : (a b : Rdn) → same_rdn a b ≡ true → IsSameRdn a b
same_from a b e =
    let parts = and_parts (bytes_eq (str_to_ascii_uppercase a.kind) (str_to_ascii_uppercase b.kind))
    (same_folded a.value b.value) e in
    record {
      kind = (bytes_eq-Decides (str_to_ascii_uppercase a.kind) (str_to_ascii_uppercase b.kind)).0 parts.0;
      value = (bytes_eq-Decides (folded a.value) (folded b.value)).0 parts.1;
    }

-- a test that is true exactly where another is
pub alike : (a b : Bool) → (a ≡ true → b ≡ true) → (b ≡ true → a ≡ true) → a ≡ b
alike true b to from = sym (to refl)
alike false true to from = from refl
alike false false to from = refl

pub same_either : (a b : Rdn) → same_rdn a b ≡ same_rdn b a
same_either a b = alike (same_rdn a b) (same_rdn b a) (turned a b) (turned b a)
  where
    turned : (x y : Rdn) → same_rdn x y ≡ true → same_rdn y x ≡ true
    turned x y e = let s = same_from x y e in same_by y x (record { kind = sym s.kind; value = sym s.value })

-- the test by types without case and folded values
pub same_is : (name value kind wanted : List ℕ) (types values : Bool)
    → (types ≡ true → map to_ascii_lowercase name ≡ map to_ascii_lowercase kind)
    → (map to_ascii_lowercase name ≡ map to_ascii_lowercase kind → types ≡ true)
    → (values ≡ true → folded value ≡ folded wanted) → (folded value ≡ folded wanted → values ≡ true)
    → types && values ≡ same_rdn (record { kind = str_to_ascii_uppercase name; value = value })
    (record { kind = kind; value = wanted })
same_is name value kind wanted types values types_to types_from values_to values_from =
    alike (types && values) (same_rdn (record { kind = str_to_ascii_uppercase name; value = value })
    (record { kind = kind; value = wanted }))
    (λ e. let parts = and_parts types values e
    in same_by (record { kind = str_to_ascii_uppercase name; value = value })
    (record { kind = kind; value = wanted })
    (record { kind = same_types name kind (types_to parts.0); value = values_to parts.1 }))
    (λ e. let s = same_from (record { kind = str_to_ascii_uppercase name; value = value })
    (record { kind = kind; value = wanted }) e in
    and_from types values (types_from (same_types_back name kind s.kind)) (values_from s.value))

-- the same in the two cases of the code
pub is_of_kind : (attr name value kind wanted : List ℕ) (types values : Bool) → name ≡ attr
    → ((types ≡ true) ↔ (map to_ascii_lowercase name ≡ map to_ascii_lowercase kind))
    → ((values ≡ true) ↔ (folded value ≡ folded wanted)) → types ≡ true
    → values ≡ same_rdn (record { kind = str_to_ascii_uppercase attr; value = value })
    (record { kind = kind; value = wanted })
is_of_kind attr name value kind wanted types values is by_types by_values typed =
    ap (λ (t : Bool). t && values) (sym typed) ∙ same_is name value kind wanted types values by_types.0 by_types.1
    by_values.0 by_values.1
    ∙ ap (λ (n : List ℕ). same_rdn (record { kind = str_to_ascii_uppercase n; value = value })
    (record { kind = kind; value = wanted })) is

pub is_other_kind : (attr name value kind wanted : List ℕ) (types : Bool) → name ≡ attr
    → ((types ≡ true) ↔ (map to_ascii_lowercase name ≡ map to_ascii_lowercase kind)) → types ≡ false
    → types ≡ same_rdn (record { kind = str_to_ascii_uppercase attr; value = value })
    (record { kind = kind; value = wanted })
is_other_kind attr name value kind wanted types is by_types other =
    alike types (same_rdn (record { kind = str_to_ascii_uppercase name; value = value })
    (record { kind = kind; value = wanted })) (λ e. absurd (both_ways types other e))
    (λ e. by_types.1 (same_types_back name kind
    (same_from (record { kind = str_to_ascii_uppercase name; value = value })
    (record { kind = kind; value = wanted }) e).kind))
    ∙ ap (λ (n : List ℕ). same_rdn (record { kind = str_to_ascii_uppercase n; value = value })
    (record { kind = kind; value = wanted })) is

pub if_ok : {A E : Type 0} {P Q : A → Type 0} (r : Result A E) → ((x : A) → P x → Q x) → IfOk r P → IfOk r Q
if_ok (Ok x) f p = f x p
if_ok (Err e) f p = tt

-- ---- what is known of a live object

pub object_is : (objects : List Object) (number : ℕ) (o : Object) → Some o ≡ object_of objects number → o
    ≡ object_at objects number
unfolding object_at
object_is objects number o is = ap (λ (found : Option Object). unwrap_or found no_object) is

pub class_within : (dir : Directory) (schema : List SchemaRecord) (number : ℕ) (o : ObjectIn)
    → AreStanding dir.schema dir.objects → is_live dir.objects number ≡ true → schema ≡ dir.schema
    → object_seen o (sd_at dir.objects number) ≡ object_at dir.objects number
    → o.class.0 < length (classes_of schema)
class_within dir schema number o stand live same is =
    rw same (subst (λ (x : Object). x.class < length (classes_of dir.schema)) (sym is)
    (stand.content number (object_at dir.objects number) (of-live dir.objects number live)).class_of_schema)

pub name_is_value : (dir : Directory) (number : ℕ) (o : ObjectIn) (name : List ℕ) → AreStanding dir.schema dir.objects
    → is_live dir.objects number ≡ true → object_seen o (sd_at dir.objects number) ≡ object_at dir.objects number
    → name ≡ o.name → IsValue name
name_is_value dir number o name stand live is same =
    rw same (subst (λ (x : Object). IsValue x.name) (sym is)
    (stand.content number (object_at dir.objects number) (of-live dir.objects number live)).name)

pub rdn_is : (dir : Directory) (schema : List SchemaRecord) (number : ℕ) (o : ObjectIn) (name : List ℕ) → schema
    ≡ dir.schema → object_seen o (sd_at dir.objects number) ≡ object_at dir.objects number → name ≡ o.name
    → record { kind = str_to_ascii_uppercase (attr_name schema (naming_of schema o.class.0)); value = name }
    ≡ rdn_of dir.schema (object_at dir.objects number)
unfolding rdn_of
rdn_is dir schema number o name same is named =
    ap (λ (n : List ℕ). record {
      kind = str_to_ascii_uppercase (attr_name schema (naming_of schema o.class.0));
      value
          = n;
    }) named
    ∙ ap (λ (s : List SchemaRecord). rdn_of s (object_seen o (sd_at dir.objects number))) same
    ∙ ap (rdn_of dir.schema) is

pub parent_is_live : (dir : Directory) (number : ℕ) (o : ObjectIn) → AreStanding dir.schema dir.objects
    → is_live dir.objects number ≡ true → object_seen o (sd_at dir.objects number) ≡ object_at dir.objects number
    → (number ≡ root → ⊥)
    → is_live dir.objects o.parent ≡ true
parent_is_live dir number o stand live is below =
    subst (λ (x : Object). is_live dir.objects x.parent ≡ true) (sym is)
    (stand.parents number (object_at dir.objects number) (of-live dir.objects number live) below)

-- ---- the way up

pub all_parts : (dir : Directory) (number : ℕ) → rdns_of dir number ≡ rdns_within dir 65 number
unfolding rdns_of max_depth
all_parts dir number = refl

pub part_more : (dir : Directory) (left number : ℕ) → 0 < left
    → rdns_within dir left number ≡ rdn_of dir.schema (object_at dir.objects number)
    ∷ (if number == root then dir.meta.suffix else rdns_within dir (left - 1)
    (object_at dir.objects number).parent)
unfolding rdns_within
part_more dir zero number more = absurd (omega arith)
part_more dir (suc left) number more = let same : suc left - 1 ≡ left = omega arith in rw same refl

pub no_parts : (dir : Directory) (number : ℕ) → rdns_within dir 0 number ≡ []
unfolding rdns_within
no_parts dir number = refl

-- one more part, which is the root's
pub ends_at_root : (dir : Directory) (so_far : List Rdn) (left number : ℕ) (whole : List Rdn) → 0 < left → number
    ≡ root → so_far ++ rdns_within dir left number ≡ whole
    → (so_far ++ rdn_of dir.schema (object_at dir.objects number) ∷ []) ++ dir.meta.suffix ≡ whole
ends_at_root dir so_far left number whole more top is =
    append_assoc so_far (rdn_of dir.schema (object_at dir.objects number) ∷ []) dir.meta.suffix
    ∙ ap (λ (l : List Rdn). so_far ++ l) (sym
    (part_more dir left number more ∙ ap (λ (t : Bool). rdn_of dir.schema (object_at dir.objects number)
    ∷ (if t then dir.meta.suffix else rdns_within dir (left - 1) (object_at dir.objects number).parent))
    (eq-eqb number root top)))
    ∙ is

-- or isn't
pub goes_up : (dir : Directory) (so_far : List Rdn) (left number : ℕ) (whole : List Rdn) → 0 < left
    → (number ≡ root → ⊥) → so_far ++ rdns_within dir left number ≡ whole
    → (so_far ++ rdn_of dir.schema (object_at dir.objects number) ∷ []) ++ rdns_within dir (left - 1)
    (object_at dir.objects number).parent ≡ whole
goes_up dir so_far left number whole more below is =
    append_assoc so_far (rdn_of dir.schema (object_at dir.objects number) ∷ [])
    (rdns_within dir (left - 1) (object_at dir.objects number).parent)
    ∙ ap (λ (l : List Rdn). so_far ++ l) (sym
    (part_more dir left number more ∙ ap (λ (t : Bool). rdn_of dir.schema (object_at dir.objects number)
    ∷ (if t then dir.meta.suffix else rdns_within dir (left - 1) (object_at dir.objects number).parent))
    (ne_eqb number root below)))
    ∙ is

-- no levels are left
pub ends_up : (dir : Directory) (so_far : List Rdn) (left number : ℕ) (whole : List Rdn) → left ≡ 0 → so_far
    ++ rdns_within dir left number ≡ whole → so_far ≡ whole
ends_up dir so_far left number whole none is =
    sym (append-nil so_far) ∙ ap (λ (l : List Rdn). so_far ++ l) (sym (no_parts dir number))
    ∙ ap (λ (n : ℕ). so_far ++ rdns_within dir n number) (sym none) ∙ is

pub name_is : (dir : Directory) (number : ℕ) (rdns : List Rdn) → rdns ≡ rdns_of dir number → rdns_text rdns
    ≡ name_text dir number
unfolding name_text
name_is dir number rdns is = ap rdns_text is

-- ---- the way down

-- the child that is found, and whether its type agrees
pub child_is : (dir : Directory) (parent : ℕ) (rdn : Rdn) (child : ℕ) → Rise dir.objects → Some child
    ≡ option_map (λ (o : Object). o.number) (child_named dir.objects parent rdn.value)
    → (is_live dir.objects child ≡ true) × ((if same_rdn (rdn_of dir.schema (object_at dir.objects child)) rdn
    then Some child else None) ≡ child_of_rdn dir parent rdn)
unfolding child_of_rdn child_named
child_is dir parent rdn child rise is = by_found (child_named dir.objects parent rdn.value) refl is
  where
    by_found : (found : Option Object) → child_named dir.objects parent rdn.value ≡ found → Some child
        ≡ option_map (λ (o : Object). o.number) found
        → (is_live dir.objects child ≡ true)
        × ((if same_rdn (rdn_of dir.schema (object_at dir.objects child)) rdn then Some child else None)
        ≡ option_and_then (number_if_typed dir.schema rdn) (child_named dir.objects parent rdn.value))
    by_found None none e = absurd (none-some child (sym e))
    by_found (Some o) found e =
        let number : child ≡ o.number = same_Some child o.number e in
        let live : object_of dir.objects child ≡ Some o = subst (λ (n : ℕ). object_of dir.objects n ≡ Some o)
        (sym number) (found_first _ 0 dir.objects o rise found).live in
        let at : object_at dir.objects child ≡ o = at-of dir.objects child o live in (
          ap is_some live,
          ap (λ (x : Object). if same_rdn (rdn_of dir.schema x) rdn then Some child else None) at
              ∙ ap (λ (n : ℕ). if same_rdn (rdn_of dir.schema o) rdn then Some n else None) number
              ∙ sym (ap (option_and_then (number_if_typed dir.schema rdn)) found),
        )

pub no_child_is : (dir : Directory) (parent : ℕ) (rdn : Rdn) → None ≡ option_map (λ (o : Object). o.number)
    (child_named dir.objects parent rdn.value) → None ≡ child_of_rdn dir parent rdn
unfolding child_of_rdn
no_child_is dir parent rdn is = by_found (child_named dir.objects parent rdn.value) is
  where
    by_found : (found : Option Object) → None ≡ option_map (λ (o : Object). o.number) found → None
        ≡ option_and_then (number_if_typed dir.schema rdn) found
    by_found None e = refl
    by_found (Some o) e = absurd (none-some o.number e)

-- what is left of the parts from the end, behind one more
pub from_end : {Y : Type 0} (F : List Rdn → Y) (rdns : List Rdn) (i : ℕ) (rdn : Rdn) → i < length rdns → rdn
    ≡ get_or rdns (length rdns - 1 - i) rdn → F (drop i (reverse rdns)) ≡ F (rdn ∷ drop (i + 1) (reverse rdns))
from_end F rdns i rdn lt is =
    at_drop_more F (reverse rdns) i rdn (let same = length-reverse rdns in omega (arith, lt, same))
    ∙ ap (λ (x : Rdn). F (x ∷ drop (i + 1) (reverse rdns))) (get_or-reverse rdns i rdn lt ∙ sym is)

pub none_left : {Y : Type 0} (F : List Rdn → Y) (rdns : List Rdn) (i : ℕ) → length rdns ≤ i
    → F (drop i (reverse rdns)) ≡ F []
none_left F rdns i le = ap F (drop_all i (reverse rdns) (let same = length-reverse rdns in omega (arith, le, same)))

pub below_more : (dir : Directory) (number : ℕ) (rdn : Rdn) (rest : List Rdn) (child : ℕ) → Some child
    ≡ child_of_rdn dir number rdn → found_below dir number (rdn ∷ rest) ≡ found_below dir child rest
unfolding found_below
below_more dir number rdn rest child is = ap (option_and_then (λ (n : ℕ). found_below dir n rest)) (sym is)

pub below_none : (dir : Directory) (number : ℕ) (rdn : Rdn) (rest : List Rdn) → None ≡ child_of_rdn dir number rdn
    → found_below dir number (rdn ∷ rest) ≡ None
unfolding found_below
below_none dir number rdn rest is = ap (option_and_then (λ (n : ℕ). found_below dir n rest)) (sym is)

pub below_here : (dir : Directory) (number : ℕ) → found_below dir number [] ≡ Some number
unfolding found_below
below_here dir number = refl

-- ---- what stands before a suffix

pub begins_more : (a b : Rdn) (as' bs : List Rdn) → same_rdn a b ≡ true → begins_with (a ∷ as') (b ∷ bs)
    ≡ begins_with as' bs
unfolding begins_with
begins_more a b as' bs same = ap (λ (t : Bool). t && begins_with as' bs) same

pub begins_other : (a b : Rdn) (as' bs : List Rdn) → same_rdn a b ≡ false → begins_with (a ∷ as') (b ∷ bs) ≡ false
unfolding begins_with
begins_other a b as' bs other = ap (λ (t : Bool). t && begins_with as' bs) other

pub begins_short : (b : Rdn) (bs : List Rdn) → begins_with [] (b ∷ bs) ≡ false
unfolding begins_with
begins_short b bs = refl

pub begins_all : (as' : List Rdn) → begins_with as' [] ≡ true
unfolding begins_with
begins_all as' = refl

-- the parts before the last ones are those behind the first ones from the end
pub front_reversed : (rdns : List Rdn) (n : ℕ) → n ≤ length rdns → reverse (take (length rdns - n) rdns)
    ≡ drop n (reverse rdns)
front_reversed rdns n le =
    let k : ℕ = length rdns - n in
    let parts : take k rdns ++ drop k rdns ≡ rdns = take-append-drop k rdns in
    let whole : reverse rdns ≡ reverse (drop k rdns) ++ reverse (take k rdns) = ap reverse (sym parts)
    ∙ reverse-append (take k rdns) (drop k rdns) in
    let long : length (reverse (drop k rdns)) ≡ n = length-reverse (drop k rdns) ∙ length-drop k rdns
    ∙ omega (arith, le) in
    sym (ap (drop n) whole ∙ drop_at (reverse (drop k rdns)) (reverse (take k rdns)) n long)

-- ---- the name from its end

-- a name begins with some parts and then one more
begins_then : (parts top : List Rdn) (last : Rdn) → begins_with parts top ≡ true
    → begins_with parts (top ++ last ∷ []) ≡ begins_with (drop (length top) parts) (last ∷ [])
unfolding begins_with
begins_then parts [] last begins = refl
begins_then [] (b ∷ bs) last begins = absurd cc
begins_then (a ∷ as') (b ∷ bs) last begins =
    let two = and_parts (same_rdn a b) (begins_with as' bs) begins in
    ap (λ (t : Bool). t && begins_with as' (bs ++ last ∷ [])) two.0 ∙ begins_then as' bs last two.1

begins_not : (parts top : List Rdn) (last : Rdn) → begins_with parts top ≡ false
    → begins_with parts (top ++ last ∷ []) ≡ false
unfolding begins_with
begins_not parts [] last not = absurd cc
begins_not [] (b ∷ bs) last not = refl
begins_not (a ∷ as') (b ∷ bs) last not =
    elim (cases_Bool (same_rdn a b)) [
      | inl same ↦ rw same (begins_not as' bs last (rw same at not))
      | inr other ↦ rw other refl
    ]

drop_more : (n : ℕ) (xs : List Rdn) → drop (n + 1) xs ≡ drop 1 (drop n xs)
drop_more zero xs = refl
drop_more (suc n) [] = drop_all (suc n + 1) [] (omega arith) ∙ sym (ap (drop 1) (drop_all (suc n) [] (omega arith)))
drop_more (suc n) (x ∷ xs) = let e : suc n + 1 ≡ suc (n + 1) = omega arith in rw e (drop_more n xs)

from_top : (dir : Directory) (parts : List Rdn)
    → (if begins_with parts (rdn_of dir.schema (object_at dir.objects root) ∷ []) then found_below dir root
    (drop 1 parts) else None) ≡ found_from_root dir parts
unfolding begins_with found_from_root
from_top dir [] = refl
from_top dir (p ∷ ps) =
    by_test (same_rdn p (rdn_of dir.schema (object_at dir.objects root)))
    ∙ ap (λ (t : Bool). if t then found_below dir root ps else None)
    (same_either p (rdn_of dir.schema (object_at dir.objects root)))
  where
    by_test : (t : Bool) → (if t && true then found_below dir root ps else None)
        ≡ (if t then found_below dir root ps else None)
    by_test true = refl
    by_test false = refl

root_parts : (dir : Directory) → reverse (rdns_of dir root) ≡ reverse dir.meta.suffix
    ++ rdn_of dir.schema (object_at dir.objects root) ∷ []
unfolding rdns_of rdns_within
root_parts dir = reverse-append (rdn_of dir.schema (object_at dir.objects root) ∷ []) dir.meta.suffix

with_root_found : (dir : Directory) (rdns : List Rdn) → is_live dir.objects root ≡ true
    → found dir rdns ≡ (if begins_with (reverse rdns)
    (reverse dir.meta.suffix ++ rdn_of dir.schema (object_at dir.objects root) ∷ []) then found_below dir root
    (drop (length dir.meta.suffix + 1) (reverse rdns)) else None)
unfolding found
with_root_found dir rdns live =
    let long : length (reverse dir.meta.suffix ++ rdn_of dir.schema (object_at dir.objects root) ∷ [])
    ≡ length dir.meta.suffix + 1 = length-append (reverse dir.meta.suffix)
    (rdn_of dir.schema (object_at dir.objects root) ∷ []) ∙ ap (λ (n : ℕ). n + 1) (length-reverse dir.meta.suffix)
    in
    ap (λ (top : List Rdn). found_from_end dir top (reverse rdns)) (root_parts dir)
    ∙ ap (λ (t : Bool). if t && begins_with (reverse rdns)
    (reverse dir.meta.suffix ++ rdn_of dir.schema (object_at dir.objects root) ∷ []) then found_below dir root
    (drop (length (reverse dir.meta.suffix ++ rdn_of dir.schema (object_at dir.objects root) ∷ []))
    (reverse rdns)) else None) live
    ∙ ap (λ (n : ℕ). if begins_with (reverse rdns)
    (reverse dir.meta.suffix ++ rdn_of dir.schema (object_at dir.objects root) ∷ []) then found_below dir root
    (drop n (reverse rdns)) else None) long

-- where the root isn't live
pub found_rootless : (dir : Directory) (rdns : List Rdn) → is_live dir.objects root ≡ false → None ≡ found dir rdns
unfolding found
found_rootless dir rdns dead = sym (ap (λ (t : Bool). if t && begins_with (reverse rdns) (reverse (rdns_of dir root))
    then found_below dir root (drop (length (reverse (rdns_of dir root))) (reverse rdns)) else None) dead)

-- where the name doesn't end with the suffix
pub found_elsewhere : (dir : Directory) (rdns : List Rdn) → is_live dir.objects root ≡ true
    → begins_with (reverse rdns) (reverse dir.meta.suffix) ≡ false → None ≡ found dir rdns
found_elsewhere dir rdns live not =
    sym (with_root_found dir rdns live ∙ ap
    (λ (t : Bool). if t then found_below dir root (drop (length dir.meta.suffix + 1) (reverse rdns)) else None)
    (begins_not (reverse rdns) (reverse dir.meta.suffix) (rdn_of dir.schema (object_at dir.objects root)) not))

-- where it does
pub found_behind : (dir : Directory) (rdns front : List Rdn) → is_live dir.objects root ≡ true
    → begins_with (reverse rdns) (reverse dir.meta.suffix) ≡ true → reverse front ≡ drop (length dir.meta.suffix)
    (reverse rdns)
    → found_from_root dir (reverse front) ≡ found dir rdns
found_behind dir rdns front live begins is =
    let top : Rdn = rdn_of dir.schema (object_at dir.objects root) in
    let here : begins_with (reverse rdns) (reverse dir.meta.suffix ++ top ∷ []) ≡ begins_with (reverse front)
    (top ∷ []) =
    begins_then (reverse rdns) (reverse dir.meta.suffix) top begins
    ∙ ap (λ (n : ℕ). begins_with (drop n (reverse rdns)) (top ∷ [])) (length-reverse dir.meta.suffix)
    ∙ ap (λ (parts : List Rdn). begins_with parts (top ∷ [])) (sym is) in
    let behind : drop (length dir.meta.suffix + 1) (reverse rdns) ≡ drop 1 (reverse front)
    = drop_more (length dir.meta.suffix) (reverse rdns) ∙ ap (drop 1) (sym is) in
    sym (from_top dir (reverse front))
    ∙ sym (with_root_found dir rdns live ∙ ap
    (λ (t : Bool). if t then found_below dir root (drop (length dir.meta.suffix + 1) (reverse rdns)) else None)
    here ∙ ap (λ (parts : List Rdn). if begins_with (reverse front) (top ∷ []) then found_below dir root parts
    else None) behind)

pub top_found : (dir : Directory) (rdns below : List Rdn) (top : Rdn) → rdns ≡ below ++ top ∷ []
    → found_from_root dir (reverse rdns) ≡ (if same_rdn (rdn_of dir.schema (object_at dir.objects root)) top
    then found_below dir root (reverse below) else None)
unfolding found_from_root
top_found dir rdns below top is = ap (found_from_root dir) (ap reverse is ∙ reverse-append below (top ∷ []))

pub none_found_top : (dir : Directory) (rdns : List Rdn) → length rdns ≡ 0 → None ≡ found_from_root dir (reverse rdns)
unfolding found_from_root
none_found_top dir [] none = refl
none_found_top dir (x ∷ xs) none = absurd (omega (arith, none))

-- ---- containers of fixed names

pub below_two : (dir : Directory) (a b : Rdn) → found_below dir root (a ∷ b ∷ [])
    ≡ option_and_then (λ (n : ℕ). child_of_rdn dir n b) (child_of_rdn dir root a)
unfolding found_below
below_two dir a b = by_first (child_of_rdn dir root a)
  where
    at_end : (last : Option ℕ) → option_and_then (λ (n : ℕ). Some n) last ≡ last
    at_end None = refl
    at_end (Some n) = refl

    by_first : (first : Option ℕ) → option_and_then
        (λ (n : ℕ). option_and_then (λ (m : ℕ). Some m) (child_of_rdn dir n b)) first
        ≡ option_and_then (λ (n : ℕ). child_of_rdn dir n b) first
    by_first None = refl
    by_first (Some n) = at_end (child_of_rdn dir n b)

pub below_four : (dir : Directory) (a b c d : Rdn)
    → found_below dir root (a ∷ b ∷ c ∷ d ∷ []) ≡ option_and_then (λ (n : ℕ). child_of_rdn dir n d)
    (option_and_then (λ (n : ℕ). child_of_rdn dir n c)
    (option_and_then (λ (n : ℕ). child_of_rdn dir n b) (child_of_rdn dir root a)))
unfolding found_below
below_four dir a b c d = by_first (child_of_rdn dir root a)
  where
    at_end : (last : Option ℕ) → option_and_then (λ (n : ℕ). Some n) last ≡ last
    at_end None = refl
    at_end (Some n) = refl

    by_third : (third : Option ℕ) → option_and_then
        (λ (n : ℕ). option_and_then (λ (m : ℕ). Some m) (child_of_rdn dir n d)) third
        ≡ option_and_then (λ (n : ℕ). child_of_rdn dir n d) third
    by_third None = refl
    by_third (Some n) = at_end (child_of_rdn dir n d)

    by_second : (second : Option ℕ) → option_and_then
        (λ (k : ℕ). option_and_then (λ (n : ℕ). option_and_then (λ (m : ℕ). Some m) (child_of_rdn dir n d))
        (child_of_rdn dir k c)) second
        ≡ option_and_then (λ (n : ℕ). child_of_rdn dir n d) (option_and_then (λ (n : ℕ). child_of_rdn dir n c) second)
    by_second None = refl
    by_second (Some n) = by_third (child_of_rdn dir n c)

    by_first : (first : Option ℕ) → option_and_then
        (λ (j : ℕ). option_and_then (λ (k : ℕ). option_and_then
        (λ (n : ℕ). option_and_then (λ (m : ℕ). Some m) (child_of_rdn dir n d)) (child_of_rdn dir k c))
        (child_of_rdn dir j b)) first
        ≡ option_and_then (λ (n : ℕ). child_of_rdn dir n d)
        (option_and_then (λ (n : ℕ). child_of_rdn dir n c)
        (option_and_then (λ (n : ℕ). child_of_rdn dir n b) first))
    by_first None = refl
    by_first (Some n) = by_second (child_of_rdn dir n b)

-- ---- steps of the loops

pub by_parts : (dir : Directory) (number : ℕ) (rdn : Rdn) (kind value : List ℕ) → kind ≡ rdn.kind → value ≡ rdn.value
    → child_of_rdn dir number (record { kind = kind; value = value }) ≡ child_of_rdn dir number rdn
by_parts dir number rdn kind value k v = ap
    (λ (x : List ℕ). child_of_rdn dir number (record { kind = x; value = value })) k
    ∙ ap (λ (x : List ℕ). child_of_rdn dir number (record { kind = rdn.kind; value = x })) v

pub tested_by : (a b : Rdn) (r : Bool) → ((r ≡ true) ↔ IsSameRdn a b) → same_rdn a b ≡ r
tested_by a b r iff = alike (same_rdn a b) r (λ e. iff.1 (same_from a b e)) (λ e. same_by a b (iff.0 e))

pub all_taken : (P : Rdn → Type 0) (n : ℕ) (xs : List Rdn) → AllByRecursion P xs → AllByRecursion P (take n xs)
all_taken P zero xs all = tt
all_taken P (suc n) [] all = tt
all_taken P (suc n) (x ∷ xs) all = (all.0, all_taken P n xs all.1)

pub all_before : (P : Rdn → Type 0) (rdns below : List Rdn) (top : Rdn) → rdns ≡ below ++ top ∷ []
    → AllByRecursion P rdns → AllByRecursion P below × P top
all_before P rdns below top is all = parted below (subst (AllByRecursion P) is all)
  where
    parted : (xs : List Rdn) → AllByRecursion P (xs ++ top ∷ []) → AllByRecursion P xs × P top
    parted [] h = (tt, h.0)
    parted (x ∷ xs) h = let rest = parted xs h.1 in ((h.0, rest.0), rest.1)

pub no_rdn : Rdn
no_rdn = record { kind = []; value = [] }

-- an object that is found below another one is live
pub child_lives : (dir : Directory) (parent child : ℕ) (rdn : Rdn) → Rise dir.objects → child_of_rdn dir parent rdn
    ≡ Some child → is_live dir.objects child ≡ true
unfolding child_of_rdn child_named
child_lives dir parent child rdn rise is = by_found (child_named dir.objects parent rdn.value) refl is
  where
    by_typed : (o : Object) (t : Bool) → child_named dir.objects parent rdn.value ≡ Some o
        → (if t then Some o.number else None) ≡ Some child → is_live dir.objects child ≡ true
    by_typed o true found e = subst (λ (n : ℕ). is_live dir.objects n ≡ true) (same_Some o.number child e)
        (ap is_some (found_first _ 0 dir.objects o rise found).live)
    by_typed o false found e = absurd (none-some child e)

    by_found : (found : Option Object) → child_named dir.objects parent rdn.value ≡ found
        → option_and_then (number_if_typed dir.schema rdn) found ≡ Some child → is_live dir.objects child ≡ true
    by_found None none e = absurd (none-some child e)
    by_found (Some o) found e = by_typed o (same_rdn (rdn_of dir.schema o) rdn) found e

pub rdn_by : (rdn : Rdn) (kind value : List ℕ) → kind ≡ rdn.kind → value ≡ rdn.value
    → record { kind = kind; value = value } ≡ rdn
rdn_by rdn kind value k v = ap (λ (x : List ℕ). record { kind = x; value = value }) k
    ∙ ap (λ (x : List ℕ). record { kind = rdn.kind; value = x }) v

-- the same over the slices of the code
pub found_front : (dir : Directory) (rdns slice suffix front : List Rdn) → is_live dir.objects root ≡ true → slice
    ≡ rdns → suffix ≡ dir.meta.suffix
    → begins_with (reverse slice) (reverse suffix) ≡ true → reverse front ≡ drop (length suffix) (reverse slice)
    → found_from_root dir (reverse front) ≡ found dir rdns
found_front dir rdns slice suffix front live same own begins is =
    found_behind dir rdns front live
    (ap (λ (r : List Rdn). begins_with (reverse r) (reverse dir.meta.suffix)) (sym same)
    ∙ ap (λ (s : List Rdn). begins_with (reverse slice) (reverse s)) (sym own) ∙ begins)
    (is ∙ ap (λ (s : List Rdn). drop (length s) (reverse slice)) own
    ∙ ap (λ (r : List Rdn). drop (length dir.meta.suffix) (reverse r)) same)

pub found_nowhere : (dir : Directory) (rdns slice suffix : List Rdn) → is_live dir.objects root ≡ true → slice ≡ rdns
    → suffix ≡ dir.meta.suffix → begins_with (reverse slice) (reverse suffix) ≡ false → None ≡ found dir rdns
found_nowhere dir rdns slice suffix live same own begins =
    found_elsewhere dir rdns live
    (ap (λ (r : List Rdn). begins_with (reverse r) (reverse dir.meta.suffix)) (sym same)
    ∙ ap (λ (s : List Rdn). begins_with (reverse slice) (reverse s)) (sym own) ∙ begins)

and_then_some : (f : ℕ → Option ℕ) (o : Option ℕ) (x : ℕ) → option_and_then f o ≡ Some x → (y : ℕ) × (f y ≡ Some x)
and_then_some f None x is = absurd (none-some x is)
and_then_some f (Some y) x is = (y, is)

pub service_lives : (dir : Directory) (number : ℕ) → Rise dir.objects → directory_service dir ≡ Some number
    → is_live dir.objects number ≡ true
unfolding directory_service
service_lives dir number rise is =
    let d = common_name (codes "Directory Service") in
    let last = and_then_some (λ (n : ℕ). child_of_rdn dir n d) _ number
    (sym (below_four dir (common_name (codes "Configuration")) (common_name (codes "Services"))
    (common_name (codes "Windows NT")) d) ∙ is) in
    child_lives dir last.0 number d rise last.1
