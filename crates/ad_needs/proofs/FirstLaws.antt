-- Which of several names name their attribute for the first time.
use Rattle.std.proofs.Common.{◌≡◌, ℕ, ◌<◌, Bool, true, false, ◌||◌, List, [], ◌∷◌, ◌++◌, length, take, drop, get_or}
use Rattle.std.proofs.Common.{set, replicate, Option, Some, None, inl, inr, refl, sym, subst, ap, ◌∙◌}
use Rattle.std.specs.Prelude.{◌==◌, nat_eq, option_map, position}
use Rattle.std.specs.Option.{option_map_or}
use Rattle.std.specs.Str.{bytes_eq, str_to_ascii_lowercase}
use Rattle.std.specs.List.{list_any}
use Rattle.std.proofs.Math.Bool.{or-false, or-true}
use Rattle.std.proofs.Math.Seq.{take-append_seam}
use Rattle.std.proofs.lemmas.Bool.{cases_Bool, eqb-true, eqb-false, eq-eqb, ne_eqb}
use Rattle.std.proofs.lemmas.Grind.{get_or-set_at}
use Rattle.std.proofs.lemmas.List.{get_or-set_other, get_or-replicate, length-set, length-replicate}
use Rattle.std.proofs.lemmas.List.Folds.{list_any-append}
use Rattle.std.proofs.lemmas.Slice.Eq.{bytes_eq-Decides}
use Rattle.ad_schema_classes.specs.Names.{same_name, place_of}
use Rattle.ad_schema.specs.declared.line.SchemaRecord.{SchemaRecord}
use Rattle.ad_schema.specs.declared.line.SchemaKind.TheVariants.{Attribute}
use Rattle.ad_schema.specs.declared.info.AttrId.{AttrId}
use Rattle.ad_schema.specs.Attributes.{attrs_of, names_of, attr_named}
use Rattle.ad_dir_model.specs.Attributes.{attr_place, is_named}
use Rattle.ad_dir_model.proofs.AdminCount.{places_apart}
use Rattle.ad_needs.specs.ItemWords.{HaveFlags}

-- tests that agree
pub any_same : {X : Type 0} (f g : X → Bool) (xs : List X) → ((x : X) → f x ≡ g x) → list_any f xs ≡ list_any g xs
any_same f g [] same = refl
any_same f g (x ∷ xs) same = ap (λ (b : Bool). b || list_any f xs) (same x) ∙ ap (λ (b : Bool). g x || b)
    (any_same f g xs same)

-- of one more
any_push : {X : Type 0} (f : X → Bool) (xs : List X) (x : X) → list_any f (xs ++ x ∷ []) ≡ (list_any f xs || f x)
any_push f xs x = list_any-append f xs (x ∷ []) ∙ ap (λ (b : Bool). list_any f xs || b) (or-false (f x))

pub flag_set : {X : Type 0} (test : X → ℕ → Bool) (flags : List Bool) (xs : List X) (x : X) (p : ℕ) → p < length flags
    → ((q : ℕ) → test x q ≡ (p == q))
    → ((q : ℕ) → q < length flags → get_or flags q false ≡ list_any (λ (y : X). test y q) xs)
    → (q : ℕ) → q < length flags → get_or (set flags p true) q false ≡ list_any (λ (y : X). test y q) (xs ++ x ∷ [])
flag_set {X} test flags xs x p lt is each q less = elim (cases_Bool (nat_eq p q)) [
  | inl same ↦
      get_or-set_at flags p q true false (sym (eqb-true p q same)) lt
      ∙ sym (any_push (λ (y : X). test y q) xs x ∙ ap (λ (b : Bool). list_any (λ (y : X). test y q) xs || b)
      (is q ∙ same) ∙ or-true (list_any (λ (y : X). test y q) xs))
  | inr differ ↦
      get_or-set_other flags p q true false (λ e. eqb-false p q differ (sym e))
      ∙ each q less
      ∙ sym (any_push (λ (y : X). test y q) xs x ∙ ap (λ (b : Bool). list_any (λ (y : X). test y q) xs || b)
      (is q ∙ differ) ∙ or-false (list_any (λ (y : X). test y q) xs))
]

pub flag_kept : {X : Type 0} (test : X → ℕ → Bool) (flags : List Bool) (xs : List X) (x : X)
    → ((q : ℕ) → test x q ≡ false)
    → ((q : ℕ) → q < length flags → get_or flags q false ≡ list_any (λ (y : X). test y q) xs)
    → (q : ℕ) → q < length flags → get_or flags q false ≡ list_any (λ (y : X). test y q) (xs ++ x ∷ [])
flag_kept {X} test flags xs x is each q less =
    each q less ∙ sym (any_push (λ (y : X). test y q) xs x ∙ ap (λ (b : Bool). list_any (λ (y : X). test y q) xs || b)
    (is q) ∙ or-false (list_any (λ (y : X). test y q) xs))

-- ---- names of attributes

-- two names that are the same have one place
same_place : (schema : List SchemaRecord) (a b : List ℕ) → same_name b a ≡ true → attr_place schema b
    ≡ attr_place schema a
unfolding attr_named place_of same_name
same_place schema a b same =
    ap (λ (lower : List ℕ). option_map (λ (id : AttrId). id.0)
    (option_map (λ (n : ℕ). record { 0 = n })
    (position (λ (other : List ℕ). bytes_eq (str_to_ascii_lowercase other) lower) (names_of Attribute schema))))
    ((bytes_eq-Decides (str_to_ascii_lowercase b) (str_to_ascii_lowercase a)).0 same)

-- two that aren't have two, where they have any
other_place : (schema : List SchemaRecord) (a b : List ℕ) (p : ℕ) → attr_place schema a ≡ Some p → same_name b a
    ≡ false → is_named schema b p ≡ false
unfolding same_name
other_place schema a b p at differ = by (attr_place schema b) refl
  where
    by : (found : Option ℕ) → attr_place schema b ≡ found → option_map_or (λ (place : ℕ). place == p) found false
        ≡ false
    by None is = refl
    by (Some q) is = ne_eqb q p (places_apart schema b a q p is at differ)

-- a name has this place exactly where it is the same as one that has
pub named_by_place : (schema : List SchemaRecord) (a b : List ℕ) (p : ℕ) → attr_place schema a ≡ Some p
    → same_name b a ≡ is_named schema b p
named_by_place schema a b p at = elim (cases_Bool (same_name b a)) [
  | inl same ↦ same ∙ sym (ap (λ (found : Option ℕ). option_map_or (λ (place : ℕ). place == p) found false)
      (same_place schema a b same ∙ at) ∙ eq-eqb p p refl)
  | inr differ ↦ differ ∙ sym (other_place schema a b p at differ)
]

-- ---- flags of attributes

pub none_are_named : {X : Type 0} (name_of : X → List ℕ) (schema : List SchemaRecord) → HaveFlags name_of schema
    (replicate (length (attrs_of schema)) false) []
none_are_named name_of schema = record {
  len = length-replicate (length (attrs_of schema)) false;
  each = λ place lt. get_or-replicate (length (attrs_of schema)) place false false (rw length-replicate at lt);
}

pub is_named_first : {X : Type 0} (name_of : X → List ℕ) (schema : List SchemaRecord) (flags : List Bool)
    (earlier : List X) (name : List ℕ) (p : ℕ)
    → HaveFlags name_of schema flags earlier → attr_place schema name ≡ Some p → p < length flags
    → get_or flags p false ≡ list_any (λ (x : X). same_name (name_of x) name) earlier
is_named_first {X} name_of schema flags earlier name p named at lt =
    named.each p lt ∙ sym (any_same (λ (x : X). same_name (name_of x) name) (λ (x : X). is_named schema (name_of x) p)
    earlier
    (λ (x : X). named_by_place schema name (name_of x) p at))

pub one_more_named : {X : Type 0} (name_of : X → List ℕ) (schema : List SchemaRecord) (flags : List Bool)
    (earlier : List X) (one : X) (p : ℕ)
    → HaveFlags name_of schema flags earlier → attr_place schema (name_of one) ≡ Some p → p < length flags
    → HaveFlags name_of schema (set flags p true) (earlier ++ one ∷ [])
one_more_named {X} name_of schema flags earlier one p named at lt = record {
  len = length-set flags p true ∙ named.len;
  each = λ place less. flag_set (λ (x : X) (q : ℕ). is_named schema (name_of x) q) flags earlier one p lt
      (λ q. ap (λ (found : Option ℕ). option_map_or (λ (place : ℕ). place == q) found false) at) named.each place
      (rw length-set at less);
}

pub none_more_named : {X : Type 0} (name_of : X → List ℕ) (schema : List SchemaRecord) (flags : List Bool)
    (earlier : List X) (one : X)
    → HaveFlags name_of schema flags earlier → attr_place schema (name_of one) ≡ None → HaveFlags name_of schema flags
    (earlier ++ one ∷ [])
none_more_named {X} name_of schema flags earlier one named at = record {
  len = named.len;
  each = λ place less. flag_kept (λ (x : X) (q : ℕ). is_named schema (name_of x) q) flags earlier one
      (λ q. ap (λ (found : Option ℕ). option_map_or (λ (place : ℕ). place == q) found false) at) named.each place less;
}

-- ---- the place of a name as it is looked up

pub placed : (schema : List SchemaRecord) (name sent : List ℕ) (id : AttrId) → Some id ≡ attr_named schema sent → sent
    ≡ name → attr_place schema name ≡ Some id.0
placed schema name sent id is same = ap (attr_place schema) (sym same)
    ∙ sym (ap (option_map (λ (id : AttrId). id.0)) is)

pub unplaced : (schema : List SchemaRecord) (name sent : List ℕ) → None ≡ attr_named schema sent → sent ≡ name
    → attr_place schema name ≡ None
unplaced schema name sent is same = ap (attr_place schema) (sym same) ∙ sym (ap (option_map (λ (id : AttrId). id.0)) is)

-- the flags as a slice of them is written back
pub written_back : {X : Type 0} (name_of : X → List ℕ) (schema : List SchemaRecord) (new old : List Bool) (n : ℕ)
    (xs : List X) → length new ≡ n
    → HaveFlags name_of schema new xs → HaveFlags name_of schema (take n (new ++ drop (length new) old)) xs
written_back name_of schema new old n xs is named =
    subst (λ (flags : List Bool). HaveFlags name_of schema flags xs)
    (sym (ap (λ (k : ℕ). take k (new ++ drop (length new) old)) (sym is)
    ∙ take-append_seam new (drop (length new) old))) named
