-- What an index tells is what a walk over the objects would find.
use Rattle.std.proofs.Common.{◌≡◌, ℕ, suc, ◌+◌, ◌^◌, ◌<◌, nat_lt, Bool, true, false, cond, Option, Some, None}
use Rattle.std.proofs.Common.{inl, inr, Ok, Err, List, [], ◌∷◌, ◌++◌, length, refl, sym, ap, ◌∙◌, arith, is_some}
use Rattle.std.specs.Prelude.{position, not, ◌==◌, ◌||◌}
use Rattle.std.specs.List.{AllByRecursion, list_any, prefix_len}
use Rattle.std.specs.Str.{bytes_eq, str_to_ascii_uppercase}
use Rattle.std.proofs.lemmas.Bool.{cases_Bool, and_from, eqb-true, eq-eqb, lt-ltb, ltb-true}
use Rattle.std.proofs.lemmas.List.{map-append, length-map}
use Rattle.std.proofs.lemmas.Slice.Eq.{bytes_eq-Decides}
use Rattle.ad_bytes.specs.Numbers.{be_bytes, be_at}
use Rattle.ad_bytes.specs.Reading.{Reading}
use Rattle.ad_bytes.specs.declared.input.Short.{Short}
use Rattle.ad_bytes.proofs.Codec.{be_reader}
use Rattle.ad_dn.specs.declared.rdn.Rdn.{Rdn}
use Rattle.ad_dn.specs.Fold.{folded, AreSameRdns}
use Rattle.ad_dn.specs.NameKey.{rdns_key}
use Rattle.ad_dn.specs.Value.{AreRdns}
use Rattle.ad_dn.proofs.KeyLaws.{same_of_keys, keys_of_same}
use Rattle.ad_schema_classes.specs.declared.names.Case.TheVariants.{Kept}
use Rattle.ad_schema_classes.specs.Hashes.{place_by}
use Rattle.ad_dir_model.specs.Names.{same_folded, same_rdn}
use Rattle.ad_load_objects.specs.Drafts.{Draft, same_names, has_name, naming_value}
use Rattle.ad_load_objects.specs.Objects.{is_sibling, is_taken}
use Rattle.ad_load_objects.specs.Index.{drafts_seen, name_key_of, place_key, place_key_of, HasForm, IsIndex, IsIndexed}
use Rattle.ad_load_objects.specs.declared.drafts.Drafts.{Drafts}
use Rattle.ad_load_objects.specs.Seen.{draft_seen}
use Rattle.ad_load_records.proofs.Inverting.{and_true}
use Rattle.ad_load_objects.proofs.Names.{position_seen}
use Rattle.ad_load_objects.proofs.Places.{all_more, found_at, within}

both : (x y : Bool) → (x ≡ true → y ≡ true) → (y ≡ true → x ≡ true) → x ≡ y
both true y p q = sym (p refl)
both false true p q = q refl
both false false p q = refl

-- ---- names

same_are : (a b : List Rdn) → same_names a b ≡ true → AreSameRdns a b
unfolding same_names
same_are [] [] e = tt
same_are [] (y ∷ ys) e = absurd cc
same_are (x ∷ xs) [] e = absurd cc
same_are (x ∷ xs) (y ∷ ys) e =
    let parts = and_true (same_rdn x y) (same_names xs ys) e in
    let one = and_true (bytes_eq (str_to_ascii_uppercase x.kind) (str_to_ascii_uppercase y.kind))
    (same_folded x.value y.value) parts.0 in (
      record {
        kind = (bytes_eq-Decides (str_to_ascii_uppercase x.kind) (str_to_ascii_uppercase y.kind)).0 one.0;
        value = (bytes_eq-Decides (folded x.value) (folded y.value)).0 one.1;
      },
      same_are xs ys parts.1,
    )

are_same : (a b : List Rdn) → AreSameRdns a b → same_names a b ≡ true
unfolding same_names
are_same [] [] s = refl
are_same [] (y ∷ ys) s = absurd s
are_same (x ∷ xs) [] s = absurd s
are_same (x ∷ xs) (y ∷ ys) s =
    and_from (same_rdn x y) (same_names xs ys)
    (and_from (bytes_eq (str_to_ascii_uppercase x.kind) (str_to_ascii_uppercase y.kind))
    (same_folded x.value y.value) ((bytes_eq-Decides (str_to_ascii_uppercase x.kind)
    (str_to_ascii_uppercase y.kind)).1 s.0.kind) ((bytes_eq-Decides (folded x.value)
    (folded y.value)).1 s.0.value))
    (are_same xs ys s.1)

named_alike : (a b : List Rdn) → AreRdns a → AreRdns b → bytes_eq (rdns_key a) (rdns_key b) ≡ same_names a b
named_alike a b p q = both (bytes_eq (rdns_key a) (rdns_key b)) (same_names a b)
    (λ e. are_same a b (same_of_keys a b p q ((bytes_eq-Decides (rdns_key a) (rdns_key b)).0 e)))
    (λ e. (bytes_eq-Decides (rdns_key a) (rdns_key b)).1 (keys_of_same a b p q (same_are a b e)))

prefix_alike : {X : Type 0} (p q : X → Bool) (xs : List X) → AllByRecursion (λ (x : X). p x ≡ q x) xs
    → prefix_len (λ (x : X). not (p x)) xs ≡ prefix_len (λ (x : X). not (q x)) xs
prefix_alike p q [] all = refl
prefix_alike {X} p q (x ∷ xs) all =
    ap (λ (b : Bool). cond (not b) (1 + prefix_len (λ (y : X). not (p y)) xs) 0) all.0
    ∙ ap (λ (n : ℕ). cond (not (q x)) (1 + n) 0) (prefix_alike p q xs all.1)

position_alike : {X : Type 0} (p q : X → Bool) (xs : List X) → AllByRecursion (λ (x : X). p x ≡ q x) xs
    → position p xs ≡ position q xs
position_alike p q xs all = ap (λ (n : ℕ). cond (nat_lt n (length xs)) (Some n) None) (prefix_alike p q xs all)

each_named : (rdns : List Rdn) (drafts : List Draft) → AreRdns rdns → AllByRecursion HasForm drafts
    → AllByRecursion (λ (d : Draft). bytes_eq (name_key_of d) (rdns_key rdns) ≡ has_name rdns d) drafts
each_named rdns [] are forms = tt
each_named rdns (d ∷ ds) are forms = (named_alike d.rdns rdns forms.0.rdns are, each_named rdns ds are forms.1)

pub position_of_name : (drafts : List Draft) (names places : List (List ℕ)) (rdns : List Rdn)
    → IsIndex drafts names places → AreRdns rdns → place_by Kept names (rdns_key rdns)
    ≡ position (has_name rdns) drafts
unfolding place_by
position_of_name drafts names places rdns index are =
    ap (λ (ns : List (List ℕ)). position (λ (other : List ℕ). bytes_eq other (rdns_key rdns)) ns) index.names
    ∙ position_seen (λ (other : List ℕ). bytes_eq other (rdns_key rdns)) name_key_of drafts
    ∙ position_alike (λ (d : Draft). bytes_eq (name_key_of d) (rdns_key rdns)) (has_name rdns) drafts
    (each_named rdns drafts are index.forms)

-- ---- places below a parent

abbrev number_in : ℕ → Reading ℕ Short → ℕ
number_in other (Ok x) = x.0
number_in other (Err e) = other

abbrev rest_in : List ℕ → Reading ℕ Short → List ℕ
rest_in other (Ok x) = x.1
rest_in other (Err e) = other

parts_of : (p q : ℕ) (f g : List ℕ) → p < 2 ^ 32 → q < 2 ^ 32 → be_bytes 4 p ++ f ≡ be_bytes 4 q ++ g → (p ≡ q)
    × (f ≡ g)
parts_of p q f g small_p small_q e =
    let first : be_at 4 (be_bytes 4 p ++ f) ≡ Ok (p, f) = (be_reader 4).again p (be_bytes 4 p) f (small_p, refl) in
    let second : be_at 4 (be_bytes 4 q ++ g) ≡ Ok (q, g) = (be_reader 4).again q (be_bytes 4 q) g (small_q, refl) in
    let same : ◌≡◌ {A = Reading ℕ Short} (Ok (p, f)) (Ok (q, g)) = sym first ∙ ap (be_at 4) e ∙ second in
    (ap (number_in p) same, ap (rest_in f) same)

placed_alike : (parent : ℕ) (name : List ℕ) (d : Draft) → parent < 2 ^ 32 → HasForm d
    → bytes_eq (place_key_of d) (place_key parent name) ≡ is_sibling parent name d
placed_alike parent name d small form = both (bytes_eq (place_key_of d) (place_key parent name))
    (is_sibling parent name d)
    (λ e.
    let parts = parts_of d.parent parent (folded (naming_value d.rdns)) (folded name) form.parent small
    ((bytes_eq-Decides (place_key_of d) (place_key parent name)).0 e) in
    and_from (d.parent == parent) (same_folded (naming_value d.rdns) name) (eq-eqb d.parent parent parts.0)
    ((bytes_eq-Decides (folded (naming_value d.rdns)) (folded name)).1 parts.1))
    (λ e.
    let parts = and_true (d.parent == parent) (same_folded (naming_value d.rdns) name) e in
    (bytes_eq-Decides (place_key_of d) (place_key parent name)).1
    (ap (λ (n : ℕ). be_bytes 4 n ++ folded (naming_value d.rdns)) (eqb-true d.parent parent parts.0)
    ∙ ap (λ (f : List ℕ). be_bytes 4 parent ++ f) ((bytes_eq-Decides (folded (naming_value d.rdns))
    (folded name)).0 parts.1)))

each_placed : (parent : ℕ) (name : List ℕ) (drafts : List Draft) → parent < 2 ^ 32 → AllByRecursion HasForm drafts
    → AllByRecursion (λ (d : Draft). bytes_eq (place_key_of d) (place_key parent name)
    ≡ is_sibling parent name d) drafts
each_placed parent name [] small forms = tt
each_placed parent name (d ∷ ds) small forms
    = (placed_alike parent name d small forms.0, each_placed parent name ds small forms.1)

more_than : (n m : ℕ) → nat_lt (1 + n) (suc m) ≡ nat_lt n m
more_than n m = both (nat_lt (1 + n) (suc m)) (nat_lt n m)
    (λ e. let lt : 1 + n < suc m = ltb-true (1 + n) (suc m) e in lt-ltb n m (omega (arith, lt)))
    (λ e. let lt : n < m = ltb-true n m e in lt-ltb (1 + n) (suc m) (omega (arith, lt)))

within_any : {X : Type 0} (p : X → Bool) (xs : List X) → nat_lt (prefix_len (λ (x : X). not (p x)) xs) (length xs)
    ≡ list_any p xs
within_any p [] = refl
within_any {X} p (x ∷ xs) = elim (cases_Bool (p x)) [
  | inl passes ↦
      let first : nat_lt 0 (suc (length xs)) ≡ true = lt-ltb 0 (suc (length xs)) (omega arith) in
      ap (λ (b : Bool). nat_lt (cond (not b) (1 + prefix_len (λ (y : X). not (p y)) xs) 0) (suc (length xs))) passes
      ∙ first ∙ sym (ap (λ (b : Bool). b || list_any p xs) passes)
  | inr fails ↦
      ap (λ (b : Bool). nat_lt (cond (not b) (1 + prefix_len (λ (y : X). not (p y)) xs) 0) (suc (length xs))) fails
      ∙ more_than (prefix_len (λ (y : X). not (p y)) xs) (length xs) ∙ within_any p xs
      ∙ sym (ap (λ (b : Bool). b || list_any p xs) fails)
]

some_if : (b : Bool) (n : ℕ) → is_some (cond b (Some n) None) ≡ b
some_if true n = refl
some_if false n = refl

any_placed : {X : Type 0} (p : X → Bool) (xs : List X) → is_some (position p xs) ≡ list_any p xs
any_placed {X} p xs = some_if (nat_lt (prefix_len (λ (x : X). not (p x)) xs) (length xs))
    (prefix_len (λ (x : X). not (p x)) xs) ∙ within_any p xs

pub taken_by_index : (drafts : List Draft) (names places : List (List ℕ)) (parent : ℕ) (name : List ℕ)
    → IsIndex drafts names places → parent < 2 ^ 32 → is_some (place_by Kept places (place_key parent name))
    ≡ is_taken drafts parent name
unfolding place_by is_taken
taken_by_index drafts names places parent name index small =
    ap (λ (ps : List (List ℕ)). is_some (position (λ (other : List ℕ). bytes_eq other (place_key parent name)) ps))
    index.places
    ∙ ap (λ (o : Option ℕ). is_some o) (position_seen (λ (other : List ℕ). bytes_eq other
    (place_key parent name)) place_key_of drafts ∙ position_alike (λ (d : Draft). bytes_eq (place_key_of d)
    (place_key parent name)) (is_sibling parent name) drafts (each_placed parent name drafts small index.forms))
    ∙ any_placed (is_sibling parent name) drafts

-- ---- one object more

pub indexed_more : (drafts : List Draft) (names places : List (List ℕ)) (d : Draft) → IsIndex drafts names places
    → HasForm d → IsIndex (drafts ++ d ∷ []) (names ++ name_key_of d ∷ []) (places ++ place_key_of d ∷ [])
indexed_more drafts names places d index form = record {
  names = ap (λ (ns : List (List ℕ)). ns ++ name_key_of d ∷ []) index.names
      ∙ sym (map-append name_key_of drafts (d ∷ []));
  places = ap (λ (ps : List (List ℕ)). ps ++ place_key_of d ∷ []) index.places
      ∙ sym (map-append place_key_of drafts (d ∷ []));
  forms = all_more HasForm drafts d index.forms form;
}

pub as_many_names : (d : Drafts) → IsIndexed d → length d.names ≡ length d.items.items
as_many_names d index = ap length index.names ∙ length-map (drafts_seen d) name_key_of ∙ length-map d.items.items
    draft_seen

pub as_many_places : (d : Drafts) → IsIndexed d → length d.places ≡ length d.items.items
as_many_places d index = ap length index.places ∙ length-map (drafts_seen d) place_key_of ∙ length-map d.items.items
    draft_seen

pub name_in_range : (all : List Draft) (names places : List (List ℕ)) (rdns : List Rdn) (place : ℕ)
    → IsIndex all names places → AreRdns rdns
    → place_by Kept names (rdns_key rdns) ≡ Some place → place < length all
name_in_range all names places rdns place index are at =
    let found = found_at (has_name rdns) all place (sym (position_of_name all names places rdns index are) ∙ at) in
    within all place found.0 found.1

pub name_within : (d : Drafts) (rdns : List Rdn) (place : ℕ) → IsIndexed d → AreRdns rdns
    → place_by Kept d.names (rdns_key rdns) ≡ Some place → place < length d.items.items
name_within d rdns place index are at =
    let found = found_at (has_name rdns) (drafts_seen d) place
    (sym (position_of_name (drafts_seen d) d.names d.places rdns index are) ∙ at) in
    let lt : place < length (drafts_seen d) = within (drafts_seen d) place found.0 found.1 in
    omega (arith, lt, length-map d.items.items draft_seen)
