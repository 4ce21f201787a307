-- The own name of an attribute, and the attribute that a name leads to.
use Rattle.std.proofs.Common.{◌≡◌, ℕ, zero, suc, Bool, true, false, ◌==◌, List, [], ◌∷◌, map, get_or, Option, Some}
use Rattle.std.proofs.Common.{None, unwrap_or, refl, sym, subst, ap, ◌∙◌}
use Rattle.std.specs.Prelude.{slice_get, position}
use Rattle.std.specs.Option.{option_map, option_map_or}
use Rattle.std.proofs.lemmas.Bool.{eqb-true, ne_eqb}
use Rattle.std.proofs.lemmas.List.Quantifiers.{position-Some}
use Rattle.std.proofs.lemmas.Option.{none-some, same_Some, slice_get-map, slice_get-get_or}
use Rattle.ad_schema_classes.specs.Names.{same_name, place_of}
use Rattle.ad_schema.specs.declared.info.AttrId.{AttrId}
use Rattle.ad_schema.specs.declared.info.AttrInfo.{AttrInfo}
use Rattle.ad_schema.specs.declared.line.SchemaKind.TheVariants.{Attribute}
use Rattle.ad_schema.specs.declared.line.Line.{Line}
use Rattle.ad_schema.specs.declared.line.SchemaRecord.{SchemaRecord}
use Rattle.ad_schema.specs.declared.field.Field.TheVariants as field
use Rattle.ad_schema.specs.Fields.{text_of}
use Rattle.ad_schema.specs.Attributes.{lines_of, names_of, attrs_of, attr_info, attr_named}
use Rattle.ad_schema.specs.declared.info.ClassInfo.{ClassInfo}
use Rattle.ad_schema.specs.Classes.{classes_of, naming_of}
use Rattle.ad_schema.proofs.LookupLemmas.{class_naming}
use Rattle.ad_dir_model.specs.Attributes.{attr_name, is_named}

-- what is found at an attribute's place
pub named_at : (records : List SchemaRecord) (attr : ℕ) (info : AttrInfo) → slice_get (attrs_of records) attr
    ≡ Some info → slice_get (names_of Attribute records) attr ≡ Some info.name
unfolding attrs_of names_of attr_info
named_at records attr info is =
    by_lines (slice_get (lines_of Attribute records) attr) refl
  where
    by_lines : (found : Option (List Line)) → slice_get (lines_of Attribute records) attr ≡ found
        → slice_get (map (text_of field.DisplayName) (lines_of Attribute records)) attr ≡ Some info.name
    by_lines None none = absurd (none-some info
        (sym (ap (option_map attr_info) none) ∙ sym (slice_get-map attr_info (lines_of Attribute records) attr) ∙ is))
    by_lines (Some lines) found =
        let own : attr_info lines ≡ info = same_Some (attr_info lines) info
        (sym (ap (option_map attr_info) found) ∙ sym (slice_get-map attr_info (lines_of Attribute records) attr)
        ∙ is) in
        slice_get-map (text_of field.DisplayName) (lines_of Attribute records) attr
        ∙ ap (option_map (text_of field.DisplayName)) found ∙ ap (λ (i : AttrInfo). Some i.name) own

pub name_at : (records : List SchemaRecord) (attr : ℕ) (info : AttrInfo) → slice_get (attrs_of records) attr
    ≡ Some info → info.name ≡ attr_name records attr
unfolding attr_name
name_at records attr info is = sym (ap (λ (o : Option (List ℕ)). unwrap_or o []) (named_at records attr info is))

-- the naming attribute of a class
pub naming_at : (records : List SchemaRecord) (class : ℕ) (info : ClassInfo) (attr : AttrInfo)
    → slice_get (classes_of records) class ≡ Some info → slice_get (attrs_of records) info.naming.0 ≡ Some attr
    → attr.name ≡ attr_name records (naming_of records class)
naming_at records class info attr is at = name_at records info.naming.0 attr at
    ∙ ap (attr_name records) (class_naming records class info is)

-- ---- an attribute that a name leads to

got : (xs : List (List ℕ)) (i : ℕ) (x d : List ℕ) → slice_get xs i ≡ Some x → get_or xs i d ≡ x
got [] i x d at = absurd (none-some x at)
got (y ∷ ys) zero x d at = same_Some y x at
got (y ∷ ys) (suc i) x d at = got ys i x d at

-- it has the name
pub same_named : (records : List SchemaRecord) (name : List ℕ) (attr : ℕ) (info : AttrInfo)
    → slice_get (attrs_of records) attr ≡ Some info → is_named records name attr ≡ true → same_name info.name name
    ≡ true
unfolding attr_named place_of
same_named records name attr info is named = by_place (place_of (names_of Attribute records) name) refl named
  where
    by_place : (place : Option ℕ) → place_of (names_of Attribute records) name ≡ place
        → option_map_or (λ (p : ℕ). p == attr)
        (option_map (λ (id : AttrId). id.0) (option_map (λ (n : ℕ). record { 0 = n }) place)) false ≡ true
        → same_name info.name name ≡ true
    by_place None e t = absurd cc
    by_place (Some p) e t =
        let names : List (List ℕ) = names_of Attribute records in
        let one : p ≡ attr = eqb-true p attr t in
        let here : get_or names p info.name ≡ info.name = ap (λ (k : ℕ). get_or names k info.name) one
        ∙ got names attr info.name info.name (named_at records attr info is) in
        let passes = position-Some (λ (other : List ℕ). same_name other name) names p info.name e in
        ap (λ (n : List ℕ). same_name n name) (sym here) ∙ passes.1

found_at : {A : Type 0} (test : A → Bool) (xs : List A) (i : ℕ) → position test xs ≡ Some i → (x : A)
    × (slice_get xs i ≡ Some x) × (test x ≡ true)
found_at test [] i e = absurd cc
found_at test (y ∷ ys) i e =
    let p = position-Some test (y ∷ ys) i y e in
    (get_or (y ∷ ys) i y, slice_get-get_or (y ∷ ys) i y p.0, p.1)

-- one whose own name is another isn't the one of the name
pub named_other : (schema : List SchemaRecord) (name : List ℕ) (attr : ℕ) → same_name (attr_name schema attr) name
    ≡ false → is_named schema name attr ≡ false
unfolding attr_named attr_name place_of
named_other schema name attr other = by (place_of (names_of Attribute schema) name) refl
  where
    by : (found : Option ℕ) → place_of (names_of Attribute schema) name ≡ found
        → option_map_or (λ (place : ℕ). place == attr)
        (option_map (λ (id : AttrId). id.0) (option_map (λ (n : ℕ). record { 0 = n }) found)) false ≡ false
    by None e = refl
    by (Some p) e =
        let at = found_at (λ (o : List ℕ). same_name o name) (names_of Attribute schema) p e in
        ne_eqb p attr (λ (same : p ≡ attr).
        let there : slice_get (names_of Attribute schema) attr ≡ Some at.0
        = subst (λ (n : ℕ). slice_get (names_of Attribute schema) n ≡ Some at.0) same at.1 in
        let is : at.0 ≡ unwrap_or (slice_get (names_of Attribute schema) attr) []
        = ap (λ (o : Option (List ℕ)). unwrap_or o []) (sym there) in
        let both : true ≡ false = sym at.2 ∙ ap (λ (o : List ℕ). same_name o name) is ∙ other in
        absurd cc)
